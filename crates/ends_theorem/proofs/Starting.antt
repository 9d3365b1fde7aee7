-- Starting an end: refused by 12 exactly for settings outside 01's ranges. Assumes nothing.
use Rattle.std.specs.Prelude.{ℕ, ◌<◌, ◌≤◌, leb, ltb, true, ◌↔◌, ◌≡◌}
use borrow.Author.Tests.{leb-true, le-leb, ltb-true, ltb-false}
use Rattle.std.proofs.Math.Bool.{false≢true}
use Rattle.std.proofs.Common.{sym, ap, ◌∙◌, arith}
use Rattle.base.specs.Choose.{if_true, if_false, test_cases, both_left, both_right, both_true}
use Rattle.queue.specs.Queue.{is_setting}
use Rattle.outgoing.specs.State.{started}
use Rattle.receiving.specs.declared.Kept.{Kept}
use Rattle.receiving.specs.Receiving.{answer_number, fresh_of}
use Rattle.send_keys.specs.Answer.{refusal}

-- "MTU 576 to 1,500 and queue 1 to 16 datagrams"
pub record Ranges (mtu limit : ℕ) : Type 0 where
  pub low : 576 ≤ mtu
  pub high : mtu ≤ 1500
  pub some : 1 ≤ limit
  pub most : limit ≤ 16

setting-ranges : (mtu limit : ℕ) → is_setting mtu limit ≡ true → Ranges mtu limit
unfolding is_setting
setting-ranges mtu limit z =
    let a = both_right (leb 576 mtu) _ z in
    let b = both_right (leb mtu 1500) _ a in
    record {
      low = leb-true 576 mtu (both_left _ _ z);
      high = leb-true mtu 1500 (both_left _ _ a);
      some = leb-true 1 limit (both_left _ _ b);
      most = leb-true limit 16 (both_right (leb 1 limit) _ b);
    }

pub ranges-setting : (mtu limit : ℕ) → Ranges mtu limit → is_setting mtu limit ≡ true
unfolding is_setting
ranges-setting mtu limit o = both_true (le-leb _ _ o.low) ∙ both_true (le-leb _ _ o.high) ∙ both_true (le-leb _ _ o.some) ∙ le-leb _ _ o.most

-- 0 in range, else 12
pub sending-starts : (mtu limit : ℕ) → ((refusal (started mtu limit).answer ≡ 0) ↔ Ranges mtu limit) × ((refusal (started mtu limit).answer ≡ 12) ↔ (Ranges mtu limit → ⊥))
unfolding started
sending-starts mtu limit =
    test_cases (is_setting mtu limit)
    (λ z.
    let zero : refusal (started mtu limit).answer ≡ 0 = unfold started in (ap refusal (if_true _ _ z)) in
    ((λ e. setting-ranges mtu limit z, λ o. zero), (λ e. absurd (omega (arith, zero, e)), λ no. absurd (no (setting-ranges mtu limit z)))))
    (λ z.
    let twelve : refusal (started mtu limit).answer ≡ 12 = unfold started in (ap refusal (if_false _ _ z)) in
    let out : Ranges mtu limit → ⊥ = λ o. false≢true (sym z ∙ ranges-setting mtu limit o) in
    ((λ e. absurd (omega (arith, twelve, e)), λ o. absurd (out o)), (λ e. out, λ no. twelve)))

-- "min_protected_fragment_len (at most 17 for every suite used)"
pub receiving-starts : (min : ℕ) → ((answer_number (fresh_of min).answer ≡ 0) ↔ (min ≤ 17)) × ((answer_number (fresh_of min).answer ≡ 12) ↔ (17 < min))
receiving-starts min =
    test_cases (ltb 17 min)
    (λ z.
    let twelve : answer_number (fresh_of min).answer ≡ 12 = unfold fresh_of in (ap (λ (k : Kept). answer_number k.answer) (if_true _ _ z)) in
    let over : 17 < min = ltb-true 17 min z in
    ((λ e. absurd (omega (arith, twelve, e)), λ o. absurd (omega arith)), (λ e. over, λ o. twelve)))
    (λ z.
    let zero : answer_number (fresh_of min).answer ≡ 0 = unfold fresh_of in (ap (λ (k : Kept). answer_number k.answer) (if_false _ _ z)) in
    let in-range : min ≤ 17 = ltb-false 17 min z in
    ((λ e. in-range, λ o. zero), (λ e. absurd (omega (arith, zero, e)), λ o. absurd (omega arith))))
