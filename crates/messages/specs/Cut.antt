-- How a handshake message is cut into pieces (01, "Datagrams to send"), and the dry run over them. Assumes nothing.
use mathlib.Core.List.{List, [], ◌∷◌}
use Rattle.std.specs.Prelude.{◌≡◌, ℕ, zero, suc, ◌+◌, ◌-◌, ◌<◌, ◌≤◌, max, min, ltb, eqb, length}
use Rattle.std.proofs.Common.{sym, ◌∙◌, eq-eqb, ne_eqb, eqb-true}
use Rattle.std.proofs.Math.Path.{ap}
use native.Mathlib.Omega.{arith}
use Rattle.base.specs.Choose.{choose, either, by_test, if_true, if_false}
use Rattle.queue.specs.declared.Queue.{Queue}
use Rattle.queue.specs.Queue.{tail_of, place_of, grown, placed, Tailed}
use Rattle.queue.specs.Laid.{record_len}
use Rattle.messages.specs.declared.Cut.{Cut}

-- "ClientHello (1) and ServerHello (2) use epoch 0; other handshake types epoch 2"
unfoldable pub epoch_of : ℕ → ℕ
epoch_of kind = choose (either (eqb kind 1) (eqb kind 2)) 0 2

-- record header, handshake header, and for a sealed record content type and tag: 25 bytes in epoch 0, 34 in epoch 2
abbrev pub overhead : ℕ → ℕ
overhead e = record_len e 12

-- "min(rest, MTU - used - overhead), used being the last queued datagram's length, closed or not; if that is not positive, min(rest, MTU - overhead)"
unfoldable pub piece_size : ℕ → ℕ → ℕ → ℕ → ℕ
piece_size mtu over used rest = choose (ltb (used + over) mtu) (min rest (mtu - used - over)) (min rest (mtu - over))

-- the size of the next piece
abbrev pub size_in : ℕ → ℕ → Cut → ℕ
size_in mtu over c = piece_size mtu over c.tail.used c.rest

-- what is left behind it: its record is at the end of the queue
unfoldable pub cut_next : ℕ → ℕ → Cut → Cut
cut_next mtu over c = record {
  tail = grown (place_of mtu c.tail (size_in mtu over c + over)) (size_in mtu over c + over);
  rest = c.rest - size_in mtu over c;
}

-- where the cutting of a body of n bytes begins
abbrev pub cut_behind : Queue → ℕ → Cut
cut_behind q n = record { tail = tail_of q; rest = n }

-- the sizes of at most k pieces; an empty body gives one
unfoldable pub pieces : ℕ → ℕ → ℕ → Cut → List ℕ
pieces zero mtu over c = []
pieces (suc k) mtu over c = size_in mtu over c ∷ choose (eqb (cut_next mtu over c).rest 0) [] (pieces k mtu over (cut_next mtu over c))

-- how many there are
abbrev pub plan_count : ℕ → ℕ → ℕ → Cut → ℕ
plan_count k mtu over c = length (pieces k mtu over c)

-- how many datagrams the queue then has
unfoldable pub plan_reach : ℕ → ℕ → ℕ → Cut → ℕ
plan_reach zero mtu over c = 0
plan_reach (suc k) mtu over c =
    max (cut_next mtu over c).tail.count (choose (eqb (cut_next mtu over c).rest 0) 0 (plan_reach k mtu over (cut_next mtu over c)))

-- what cutting k pieces more needs to be safe
pub record Sound (k mtu : ℕ) (c : Cut) : Type 0 where
  pub tailed : Tailed c.tail
  pub few : c.tail.count + k ≤ 32

-- ---- laws

module _ (mtu over used rest : ℕ) where
  pub size-rest : piece_size mtu over used rest ≤ rest
  unfolding piece_size
  size-rest = by_test (λ (n : ℕ). n ≤ rest) (λ e. omega arith) (λ e. omega arith)

  pub size-mtu : piece_size mtu over used rest ≤ mtu - over
  unfolding piece_size
  size-mtu = by_test (λ (n : ℕ). n ≤ mtu - over) (λ e. omega arith) (λ e. omega arith)

module _ (mtu over : ℕ) (low : 576 ≤ mtu) (high : mtu ≤ 1500) (small : over ≤ 34) (c : Cut) where
  pub next-sound : (k : ℕ) → Sound (suc k) mtu c → Sound k mtu (cut_next mtu over c)
  unfolding cut_next grown
  next-sound k s =
      let p = placed mtu c.tail (size_in mtu over c + over) (omega (arith, size-mtu mtu over c.tail.used c.rest)) in
      record {
        tailed = record { used = omega (arith, p.0); counted = λ e. omega arith };
        few = omega (arith, p.1, s.few);
      }

module _ (mtu over : ℕ) (c : Cut) where
  pub pieces_more : (k : ℕ) → ((cut_next mtu over c).rest ≡ 0 → ⊥) → pieces (suc k) mtu over c ≡ size_in mtu over c ∷ pieces k mtu over (cut_next mtu over c)
  unfolding pieces
  pieces_more k e = ap (λ (l : List ℕ). size_in mtu over c ∷ l) (if_false _ _ (ne_eqb _ _ e))

  pub pieces-last : (k : ℕ) → (cut_next mtu over c).rest ≡ 0 → pieces (suc k) mtu over c ≡ size_in mtu over c ∷ []
  unfolding pieces
  pieces-last k e = ap (λ (l : List ℕ). size_in mtu over c ∷ l) (if_true _ _ (eq-eqb _ _ e))

  pub reach-more : (k : ℕ) → ((cut_next mtu over c).rest ≡ 0 → ⊥)
      → plan_reach (suc k) mtu over c ≡ max (cut_next mtu over c).tail.count (plan_reach k mtu over (cut_next mtu over c))
  unfolding plan_reach
  reach-more k e = ap (max (cut_next mtu over c).tail.count) (if_false _ _ (ne_eqb _ _ e))

  pub reach-last : (k : ℕ) → (cut_next mtu over c).rest ≡ 0 → plan_reach (suc k) mtu over c ≡ max (cut_next mtu over c).tail.count 0
  unfolding plan_reach
  reach-last k e = ap (max (cut_next mtu over c).tail.count) (if_true _ _ (eq-eqb _ _ e))

-- ---- the dry run: what is found from here on makes what is found from the start

pub record Surveyed (mtu over : ℕ) (from : Cut) (n top : ℕ) (c : Cut) : Type 0 where
  pub turns : n ≤ 13
  pub ok : Sound (13 - n) mtu c
  pub found : n + plan_count (13 - n) mtu over c ≡ plan_count 13 mtu over from
  pub reached : max top (plan_reach (13 - n) mtu over c) ≡ plan_reach 13 mtu over from

module _ {mtu over : ℕ} {from : Cut} {n top : ℕ} {c : Cut} (s : Surveyed mtu over from n top c) where
  pub survey_end : 13 ≤ n → (n ≡ plan_count 13 mtu over from) × (top ≡ plan_reach 13 mtu over from)
  unfolding pieces plan_reach
  survey_end h =
      let z : 13 - n ≡ 0 = omega arith in
      let l : plan_count (13 - n) mtu over c ≡ 0 = ap (λ (k : ℕ). plan_count k mtu over c) z in
      let r : plan_reach (13 - n) mtu over c ≡ 0 = ap (λ (k : ℕ). plan_reach k mtu over c) z in
      (omega (arith, s.found), omega (arith, s.reached))

  module _ (h : n < 13) {d : Cut} (e : d ≡ cut_next mtu over c) {t : ℕ} (et : t ≡ max top d.tail.count) where
    turn : 13 - n ≡ suc (13 - (n + 1))
    turn = omega arith

    pub survey_more : 576 ≤ mtu → mtu ≤ 1500 → over ≤ 34 → (d.rest ≡ 0 → ⊥) → Surveyed mtu over from (n + 1) t d
    survey_more low high small ne =
        let f : (cut_next mtu over c).rest ≡ 0 → ⊥ = λ z. ne (ap (λ (x : Cut). x.rest) e ∙ z) in
        let g = ap (λ (k : ℕ). plan_count k mtu over c) turn ∙ ap length (pieces_more mtu over c (13 - (n + 1)) f) in
        let r = ap (λ (k : ℕ). plan_reach k mtu over c) turn ∙ reach-more mtu over c (13 - (n + 1)) f in
        let o : Sound (13 - (n + 1)) mtu (cut_next mtu over c) = next-sound mtu over low high small c (13 - (n + 1)) (rw turn at s.ok) in
        rw e (record {
          turns = omega arith;
          ok = o;
          found = omega (arith, s.found, g);
          reached = omega (arith, s.reached, r, et, ap (λ (x : Cut). x.tail.count) e);
        })

    pub survey_last : d.rest ≡ 0 → (n + 1 ≡ plan_count 13 mtu over from) × (t ≡ plan_reach 13 mtu over from)
    survey_last z =
        let f : (cut_next mtu over c).rest ≡ 0 = sym (ap (λ (x : Cut). x.rest) e) ∙ z in
        let g = ap (λ (k : ℕ). plan_count k mtu over c) turn ∙ ap length (pieces-last mtu over c (13 - (n + 1)) f) in
        let r = ap (λ (k : ℕ). plan_reach k mtu over c) turn ∙ reach-last mtu over c (13 - (n + 1)) f in
        (omega (arith, s.found, g), omega (arith, s.reached, r, et, ap (λ (x : Cut). x.tail.count) e))

-- ---- the pieces are a partition of the body

abbrev pub total : List ℕ → ℕ
total [] = 0
total (n ∷ ns) = n + total ns

-- fewer than k pieces are all of it
pub pieces_whole : (k mtu over : ℕ) (c : Cut) → length (pieces k mtu over c) < k → total (pieces k mtu over c) ≡ c.rest
unfolding pieces cut_next
pieces_whole zero mtu over c h = absurd (omega arith)
pieces_whole (suc k) mtu over c h =
    let l = size-rest mtu over c.tail.used c.rest in
    let d : Cut = cut_next mtu over c in
    by_test (λ (ns : List ℕ). suc (length ns) < suc k → size_in mtu over c + total ns ≡ c.rest)
    (λ e g. omega (arith, eqb-true (c.rest - size_in mtu over c) 0 e, l))
    (λ e g. omega (arith, l, pieces_whole k mtu over d (omega arith))) h

pub pieces-few : (k mtu over : ℕ) (c : Cut) → length (pieces k mtu over c) ≤ k
unfolding pieces
pieces-few zero mtu over c = omega arith
pieces-few (suc k) mtu over c =
    let h = pieces-few k mtu over (cut_next mtu over c) in
    by_test (λ (l : List ℕ). suc (length l) ≤ suc k) (λ e. omega arith) (λ e. omega arith)
