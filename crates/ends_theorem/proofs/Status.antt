-- What a host learns without reading its state: after every list of calls, how much is saved, not acknowledged, queued, and waits to be sealed, is
-- what the account has. Assumes nothing.
use Rattle.std.specs.Prelude.{ℕ, suc, ◌+◌, ◌*◌, ◌≤◌, eqb, length, Bool, true, false, List, [], ◌∷◌, ◌≡◌, refl}
use Rattle.std.proofs.Common.{eq-eqb, ne_eqb, length-append, sym, ap, ◌∙◌, mul-le-mul, suc-mul}
use Rattle.std.proofs.Math.Logic.{⊎_elim}
use native.Mathlib.Omega.{arith}
use Rattle.base.specs.Choose.{choose, if_true, if_false, test_cases}
use Rattle.queue.specs.declared.Queue.{Queue}
use Rattle.queue.specs.Queue.{is_sound, slot_of, sound-again}
use Rattle.send_keys.specs.declared.SendKeys.{SendKeys}
use Rattle.outgoing.specs.Status.{to_seal}
use Rattle.flight.specs.Status.{unacknowledged}
use Rattle.waiting_laws.specs.Calls.{Stores}
use Rattle.waiting_laws.proofs.Lists.{long, runs-length}
use Rattle.waiting_laws.specs.Queued.{Queued, plain, waits, sealed, bytes_of, bytes, flat, numbers_of, Lies, Rows, Under}
use Rattle.history_theorem.specs.Claim.{Masks}
use Rattle.ends_theorem.specs.Claim.{Startable}
use Rattle.ends_theorem.proofs.Counting.{unacked-is}
use Rattle.ends_theorem.specs.Ledger.{Kept, Ledger, Going, items, waiting, with_saved, unacked, sends_again, again, passes, closes, resent}
use Rattle.ends_theorem.proofs.Matches.{items_in, items_of, Matches}
use Rattle.ends_theorem.proofs.Matching.{items-flat}
use Rattle.ends_theorem.proofs.Theorem.{always_matches}
use Rattle.ends_theorem.specs.World.{Side, Event, run, Setting, fresh-pair, Honest}

-- the status of a state is the account's
pub record StatusIs (w : Stores) (l : Ledger) : Type 0 where
  pub saved : w.flight.saved ≡ length l.saved
  pub unacked : unacknowledged w.flight ≡ unacked l.saved
  pub queued : w.state.queue.count ≡ length l.queue
  pub to-seal : to_seal w.state ≡ waiting (items l.queue)
  -- and no status is refused, nor more than a word can tell
  pub few : w.flight.saved ≤ 12
  pub sound : is_sound w.state.queue ≡ true
  pub most : to_seal w.state ≤ 24000

-- ---- what waits to be sealed

length_if : (t : Bool) (n : ℕ) (ns : List ℕ) → length (choose t (n ∷ ns) ns) ≡ choose t 1 0 + length ns
unfolding choose
length_if true n ns = omega arith
length_if false n ns = omega arith

-- those under epoch 2 and those under the application epoch are all that wait
both_wait : (k : ℕ) → (k ≡ 2 → ⊥) → (rs : List Queued) → Under k rs → length (numbers_of 2 rs) + length (numbers_of k rs) ≡ waiting (items_in rs)
unfolding choose
both_wait k ne [] u = refl
both_wait k ne (plain t n x ∷ rs) u = omega (arith, both_wait k ne rs u)
both_wait k ne (waits e t n x p ∷ rs) u =
    let one : choose (eqb e 2) 1 0 + choose (eqb e k) 1 0 ≡ 1 =
    ⊎_elim
    (λ (z : e ≡ 2). omega (arith, if_true {A = ℕ} {t = eqb e 2} 1 0 (eq-eqb e 2 z), if_false {A = ℕ} {t = eqb e k} 1 0 (ne_eqb e k (λ y. ne (sym y ∙ z)))))
    (λ (z : e ≡ k). omega (arith, if_false {A = ℕ} {t = eqb e 2} 1 0 (ne_eqb e 2 (λ y. ne (sym z ∙ y))), if_true {A = ℕ} {t = eqb e k} 1 0 (eq-eqb e k z)))
    u.0 in
    omega (arith, one, length_if (eqb e 2) n (numbers_of 2 rs), length_if (eqb e k) n (numbers_of k rs), both_wait k ne rs u.1)
both_wait k ne (sealed e t n x m p ∷ rs) u = omega (arith, both_wait k ne rs u)

-- ---- how many there can be

lies-few : (mem : List ℕ) (base at : ℕ) (d : List Queued) → Lies mem base at d → length d ≤ length (bytes d)
lies-few mem base at [] o = omega arith
lies-few mem base at (r ∷ rs) o = omega (arith, long r o.0.sound, length-append (bytes_of r) (bytes rs), lies-few mem base (at + length (bytes_of r)) rs o.1)

-- a record has bytes, and a datagram no more than the MTU
rows_few : (q : Queue) (mem : List ℕ) (i : ℕ) (ds : List (List Queued)) → Rows q mem i ds → length (flat ds) ≤ length ds * q.mtu
rows_few q mem i [] o = omega arith
rows_few q mem i (d ∷ ds) o =
    omega (
      arith,
      length-append d (flat ds),
      lies-few mem (slot_of q.first q.limit i * q.mtu) 0 d o.0.lies,
      o.0.short,
      rows_few q mem (i + 1) ds o.1,
      suc-mul (length ds) q.mtu,
    )

waiting_few : (rs : List Queued) → waiting (items_in rs) ≤ length rs
unfolding choose
waiting_few [] = omega arith
waiting_few (plain t n x ∷ rs) = omega (arith, waiting_few rs)
waiting_few (waits e t n x p ∷ rs) = omega (arith, waiting_few rs)
waiting_few (sealed e t n x m p ∷ rs) = omega (arith, waiting_few rs)

-- ---- the whole

length-items : (ds : List (List Queued)) → length (items_of ds) ≡ length ds
length-items [] = refl
length-items (d ∷ ds) = ap suc (length-items ds)

module _ (w : Stores) (l : Ledger) (m : Matches w l) where
  seals_are : to_seal w.state ≡ waiting (items_in (flat m.ds))
  unfolding to_seal
  seals_are =
      let k : SendKeys = w.state.keys in
      let a = m.holds.keys in
      let ne : k.application.epoch ≡ 2 → ⊥ = λ z. ⊎_elim (λ (u : k.application.epoch ≡ 0). omega arith) (λ (u : 3 ≤ k.application.epoch). omega arith) a.epoch in
      omega (
        arith,
        runs-length k.handshake.sealed k.handshake.next (numbers_of 2 (flat m.ds)) a.handshake,
        runs-length k.application.sealed k.application.next (numbers_of k.application.epoch (flat m.ds)) a.application,
        both_wait k.application.epoch ne (flat m.ds) a.under,
      )

  seals-few : to_seal w.state ≤ 24000
  seals-few =
      let h = m.holds in
      let few : length m.ds ≤ 16 = omega (arith, h.count, h.range.count, h.range.limit) in
      let most : length m.ds * w.state.queue.mtu ≤ 16 * 1500 = mul-le-mul few h.range.high in
      omega (arith, seals_are, waiting_few (flat m.ds), rows_few w.state.queue w.queue 0 m.ds h.rows, most)

  pub status_is : StatusIs w l
  status_is = record {
    saved = sym m.flight.count;
    unacked = unacked-is m.flight;
    queued = sym m.holds.count ∙ sym (length-items m.ds) ∙ ap length m.queue;
    to-seal = seals_are ∙ ap waiting (sym (items-flat m.ds) ∙ ap items m.queue);
    few = m.flight.most;
    sound = sound-again m.holds.range;
    most = seals-few;
  }

-- after every list of calls, at each end
pub status_told : (settings : Side → Setting) → ((s : Side) → Startable (settings s)) → (masks : Side → Masks) (vs : List Event) → Honest masks (fresh-pair settings) vs
    → (s : Side) → let e = run (fresh-pair settings) vs s in StatusIs e.out.stores e.ledger
status_told settings ok masks vs honest s =
    let e = run (fresh-pair settings) vs s in
    status_is e.out.stores e.ledger (always_matches settings ok masks vs honest s)

-- ---- what a resend tells is how many records it sends

again-many : (ks : List Kept) (g : Going) → length (again ks g).sent ≡ length g.sent + unacked ks
unfolding again sends_again
again-many [] g = omega arith
again-many (k ∷ ks) g =
    again-many ks (choose k.acked (passes k g) (sends_again k g))
    ∙ test_cases k.acked
    (λ a. omega (arith, ap (λ (x : Going). length x.sent) (if_true (passes k g) (sends_again k g) a), if_true {A = ℕ} {t = k.acked} 0 1 a))
    (λ a. omega (
      arith,
      ap (λ (x : Going). length x.sent) (if_false (passes k g) (sends_again k g) a),
      length-append g.sent (record { epoch = k.epoch; num = g.ledger.next k.epoch; type = k.type; content = k.content } ∷ []),
      if_false {A = ℕ} {t = k.acked} 0 1 a,
    ))

pub resent-many : (l : Ledger) → length (resent l).sent ≡ unacked l.saved
unfolding resent
resent-many l = omega (arith, again-many l.saved (record { ledger = with_saved (closes l) []; sent = [] }))
