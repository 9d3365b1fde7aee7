-- An accepted sealing reply: what is then logged as sealed is the record as it was sent, its wire the masked header and what the host left; its
-- number was not sealed before. Assumes nothing.
use Rattle.std.specs.Prelude.{ℕ, ◌+◌, ◌-◌, ◌<◌, ◌≤◌, eqb, take, drop, true, ◌≡◌, refl}
use Rattle.std.proofs.Common.{eqb-true, eq-eqb, take-add, inl, inr, ⊎_elim, sym, ◌∙◌}
use Rattle.std.proofs.Math.ListN.{length, get_or}
use Rattle.std.proofs.Math.Seq.{take-append_seam, get_or-append-add}
use Rattle.std.proofs.lemmas.Bool.{false≢true}
use mathlib.Core.List.Memᴰ.{head as here}
use mathlib.Core.List.Memᴰ.{tail as there}
use mathlib.Core.List.{List, [], ◌∷◌, ◌++◌, Memᴰ as Mem}
use Rattle.std.proofs.Math.Path.{ap, subst}
use native.Mathlib.Omega.{arith}
use Rattle.base.specs.Choose.{choose, either, if_true, by_test, test_cases, both_true}
use Rattle.base.specs.Parts.{part, part-behind, splice, splice-here}
use Rattle.record.specs.Record.{sealed_head, sealed_tail, is_type, unified_header}
use Rattle.queue.specs.Laid.{trailer_of}
use Rattle.send_keys.specs.declared.SendKeys.{SendKeys}
use Rattle.send_keys.specs.Keys.{next_of, sealed_up_to}
use Rattle.outgoing.specs.declared.Sending.{Sending}
use Rattle.outgoing.specs.State.{is_content_type}
use Rattle.sealing.specs.Laws.{sealed-after}
use Rattle.sealing.specs.Sealing.{SealAnswer, part_start, masked_header, seal_answer, is_sealed, after_sealing, sealed_state, sealed_memory, length-masked, sealed-held, part-fits}
use Rattle.waiting_laws.proofs.Facts.{each-lies, waits-once}
use Rattle.waiting_laws.proofs.First.{seal_with, first_in, flat-first}
use Rattle.waiting_laws.proofs.Oldest.{Names, names-first, waiting-sealed}
use Rattle.waiting_laws.specs.Queued.{Queued, plain, waits, sealed, flat, waiting_of, waits_in, Holds}
use Rattle.waiting_laws.proofs.Seals.{after_reply, seal_holds, seal_told}
use Rattle.history_theorem.specs.Account.{upd}
use Rattle.history_theorem.specs.Claim.{Masks, as_handed}
use Rattle.history_theorem.specs.Half.{Shape}
use Rattle.history_theorem.proofs.Lists.{upd-by, mem-by}
use Rattle.history_theorem.specs.Receiver.{Sealed, Handed}
use Rattle.ends_theorem.proofs.Asked.{lent_for, first-mem, mem-waiting, first_alone, part-is}
use Rattle.ends_theorem.proofs.Laying.{line_in, lines_in, Laying}
use Rattle.ends_theorem.proofs.Numbers.{Numbers, usable_same, Ivs, sealed-ivs}
use Rattle.ends_theorem.specs.Sender.{Line, done, due, Books, finish, AllDone, sealed_as}

-- a record as it is logged
abbrev pub logged : ℕ → ℕ → ℕ → List ℕ → List ℕ → List ℕ → Sealed
logged e t n x m p = record {
  num = n;
  type = t;
  content = x;
  header = unified_header e n (length x + sealed_tail);
  cipher = p;
  wire = masked_header e n (length x + sealed_tail) m ++ p;
}

-- an accepted reply answers something that waits, with its length
pub sealed_tests : (s : Sending) (q : List ℕ) (ds : List (List Queued)) → Holds s q ds → (k : ℕ) → is_sealed (seal_answer s (length q) k) ≡ true
    → (waits_in (flat ds) ≡ true) × (k ≡ s.waiting.length)
sealed_tests s q ds h k d =
    let P : SealAnswer → Type 0 = λ a. is_sealed a ≡ true → (waits_in (flat ds) ≡ true) × (k ≡ s.waiting.length) in
    by_test P (λ t. by_test P (λ u z. (t, eqb-true k s.waiting.length u)) (λ u z. absurd (false≢true z))) (λ t z. absurd (false≢true z))
    (subst (λ a. is_sealed a ≡ true) (seal_told s q ds h k) d)

-- no content type is 0
typed : (e t : ℕ) → is_content_type e t ≡ true → t ≡ 0 → ⊥
unfolding is_content_type is_type either choose
typed e t h z =
    let f : is_content_type e 0 ≡ true = subst (λ (x : ℕ). is_content_type e x ≡ true) z h in
    test_cases (eqb e 0) (λ a. absurd (false≢true (rw a at f))) (λ a. absurd (false≢true (rw a at f)))

module _ (s : Sending) (q : List ℕ) (ds : List (List Queued)) (h : Holds s q ds) (k : ℕ) (m : List ℕ) (d : is_sealed (seal_answer s (length q) k) ≡ true)
    (e t n : ℕ) (x p : List ℕ) (us : List Queued) (y : waiting_of (flat ds) ≡ waits e t n x p ∷ us) where
  abbrev q' : List ℕ
  q' = sealed_memory (seal_answer s (length q) k) s m q

  names : Names q s.queue.mtu s.waiting e t n x p
  names = names-first s q ds h e t n x p us y

  abbrev header : List ℕ
  header = masked_header s.waiting.epoch s.waiting.number s.waiting.length m

  header-same : masked_header s.waiting.epoch s.waiting.number s.waiting.length m ≡ masked_header e n (length x + sealed_tail) m
  header-same = rw (names.epoch, names.number, names.size)

  written_so : sealed_memory (seal_answer s (length q) k) s m q ≡ splice (part_start s - sealed_head) header q
  unfolding sealed_memory
  written_so = if_true _ _ d

  behind-header : part_start s - sealed_head + sealed_head ≡ part_start s
  unfolding part_start
  behind-header = omega arith

  fits : part_start s - sealed_head + length header ≤ length q
  fits =
      let a = sealed-held s (length q) k d in
      omega (arith, part-fits a.0 a.1, length-masked s.waiting.epoch s.waiting.number s.waiting.length m, behind-header)

  wire-is : part (part_start s - sealed_head) (sealed_head + (length x + sealed_tail)) q' ≡ masked_header e n (length x + sealed_tail) m ++ p
  wire-is =
      take-add sealed_head (length x + sealed_tail) (drop (part_start s - sealed_head) q')
      ∙ ap (λ (l : List ℕ). take sealed_head (drop (part_start s - sealed_head) q') ++ l)
      (part-behind (part_start s - sealed_head) sealed_head (length x + sealed_tail) q' ∙ ap (λ (a : ℕ). part a (length x + sealed_tail) q') behind-header
      ∙ sealed-after s k m q d (part_start s) (length x + sealed_tail) (omega arith) ∙ part-is s q ds h e t n x p us y)
      ∙ ap (λ (l : List ℕ). l ++ p)
      (ap (λ (v : List ℕ). part (part_start s - sealed_head) sealed_head v) written_so
      ∙ ap (λ (a : ℕ). part (part_start s - sealed_head) a (splice (part_start s - sealed_head) header q)) (sym (length-masked s.waiting.epoch s.waiting.number s.waiting.length m))
      ∙ splice-here (part_start s - sealed_head) header q fits ∙ header-same)

  content-is : take (length x + sealed_tail - sealed_tail) (x ++ trailer_of t e n) ≡ x
  content-is =
      let z : length x + sealed_tail - sealed_tail ≡ length x = omega arith in
      ap (λ (a : ℕ). take a (x ++ trailer_of t e n)) z ∙ take-append_seam x (trailer_of t e n)

  type-is : get_or (x ++ trailer_of t e n) (length x + sealed_tail - sealed_tail) 0 ≡ t
  unfolding trailer_of
  type-is =
      let z : length x + sealed_tail - sealed_tail ≡ length x + 0 = omega arith in
      ap (λ (a : ℕ). get_or (x ++ trailer_of t e n) a 0) z ∙ get_or-append-add x (trailer_of t e n) 0 0

  same_log : {a b : ℕ} {c f u v w g : List ℕ} → a ≡ b → c ≡ f → u ≡ v → w ≡ g
      → ◌≡◌ {A = Sealed} (record { num = n; type = a; content = c; header = unified_header e n (length x + sealed_tail); cipher = u; wire = w })
      (record { num = n; type = b; content = f; header = unified_header e n (length x + sealed_tail); cipher = v; wire = g })
  same_log i j k l = cc

  -- what is logged
  pub sealed-is : sealed_as (lent_for s e t n x) q q' ≡ logged e t n x m p
  sealed-is = same_log type-is content-is (part-is s q ds h e t n x p us y) wire-is

  mask-same : (v : List ℕ) → get_or m 0 0 ≡ get_or v 0 0 → get_or m 1 0 ≡ get_or v 1 0 → (len : ℕ) → masked_header e n len m ≡ masked_header e n len v
  unfolding masked_header
  mask-same v one two len = rw (one, two)

  -- with the sender's mask it has the form of a sealed record
  pub shape_is : (masks : Masks) → get_or m 0 0 ≡ get_or (masks e (take 16 p)) 0 0 → get_or m 1 0 ≡ get_or (masks e (take 16 p)) 1 0 → Shape masks e (logged e t n x m p)
  shape_is masks one two =
      let r = (each-lies s q ds h (waits e t n x p) (first-mem (flat ds) us y)).stands.sound in
      record {
        typed = typed e t r.kind;
        size = r.part;
        short = omega (arith, r.part, r.short);
        number = omega (arith, r.number);
        header = ap (unified_header e n) (sym r.part);
        wire = ap (λ (l : List ℕ). l ++ p) (mask-same (masks e (take 16 p)) one two (length x + sealed_tail) ∙ ap (λ (a : ℕ). masked_header e n a (masks e (take 16 p))) (sym r.part));
      }

-- ---- the records behind it

-- what still waits waited before
still-waits : (m : List ℕ) (e t n : ℕ) (x p : List ℕ) (rs : List Queued) → Mem (waits e t n x p) (first_in (seal_with m) rs) → Mem (waits e t n x p) rs
still-waits m e t n x p [] o = o
still-waits m e t n x p (plain a b c ∷ rs) o = mem-by o (λ (q : waits e t n x p ≡ plain a b c). here q) (λ o'. there (still-waits m e t n x p rs o'))
still-waits m e t n x p (waits a b c d f ∷ rs) o =
    mem-by o (λ (q : waits e t n x p ≡ sealed a b c d m f). absurd (let z : ◌≡◌ {A = ℕ} 0 1 = cc in omega arith)) (λ o'. there o')
still-waits m e t n x p (sealed a b c d f g ∷ rs) o = mem-by o (λ (q : waits e t n x p ≡ sealed a b c d f g). here q) (λ o'. there (still-waits m e t n x p rs o'))

-- the line of the first that waits is finished
lines-sealed : (m : List ℕ) (e t n : ℕ) (x p : List ℕ) (us rs : List Queued) → waiting_of rs ≡ waits e t n x p ∷ us
    → finish e n (masked_header e n (length x + sealed_tail) m ++ p) (lines_in rs) ≡ lines_in (first_in (seal_with m) rs)
lines-sealed m e t n x p us [] y = absurd (let z : ◌≡◌ {A = ℕ} 0 1 = cc in omega arith)
lines-sealed m e t n x p us (plain a b c ∷ rs) y = ap (λ (l : List Line). line_in (plain a b c) ∷ l) (lines-sealed m e t n x p us rs y)
lines-sealed m e t n x p us (waits a b c d f ∷ rs) y =
    let i : a ≡ e = cc in
    let j : c ≡ n = cc in
    let u : d ≡ x = cc in
    let v : f ≡ p = cc in
    if_true _ _ (both_true (eq-eqb a e i) ∙ eq-eqb c n j) ∙ ap (λ (l : List ℕ). done l ∷ lines_in rs) (rw (i, j, u, v))
lines-sealed m e t n x p us (sealed a b c d f g ∷ rs) y = ap (λ (l : List Line). line_in (sealed a b c d f g) ∷ l) (lines-sealed m e t n x p us rs y)

-- lines that are finished
finish-behind : (e n : ℕ) (b : List ℕ) (gone ls : List Line) → AllDone gone → finish e n b (gone ++ ls) ≡ gone ++ finish e n b ls
finish-behind e n b [] ls a = refl
finish-behind e n b (done c ∷ gone) ls a = ap (λ (l : List Line). done c ∷ l) (finish-behind e n b gone ls a)
finish-behind e n b (due k m ∷ gone) ls a = absurd a

same_numbers : (k l : SendKeys) (sent : ℕ → List Handed) → l.handshake.epoch ≡ k.handshake.epoch → l.application.epoch ≡ k.application.epoch
    → ((x : ℕ) → next_of l x ≡ next_of k x) → Numbers k sent → Numbers l sent
same_numbers k l sent a b c i = record {
  once = i.once;
  below = λ e h m u. subst (λ (n : ℕ). h.num < n) (sym (c e)) (i.below e h m (sym (usable_same k l e b) ∙ u));
  early = λ e h m. ⊎_elim (λ z. inl (subst (λ (n : ℕ). e ≤ n) (sym a) z)) (λ z. inr (subst (λ (n : ℕ). e ≤ n) (sym b) z)) (i.early e h m);
}

sealed-keys : (k : SendKeys) (e n : ℕ) → ((sealed_up_to k e n).handshake.epoch ≡ k.handshake.epoch) × ((sealed_up_to k e n).application.epoch ≡ k.application.epoch)
    × ((x : ℕ) → next_of (sealed_up_to k e n) x ≡ next_of k x)
unfolding sealed_up_to next_of
sealed-keys k e n =
    by_test (λ (l : SendKeys). (l.handshake.epoch ≡ k.handshake.epoch) × (l.application.epoch ≡ k.application.epoch) × ((x : ℕ) → next_of l x ≡ next_of k x))
    (λ t. (refl, refl, λ x. refl)) (λ t. (refl, refl, λ x. refl))

sealed-numbers : (k : SendKeys) (sent : ℕ → List Handed) (e n : ℕ) → Numbers k sent → Numbers (sealed_up_to k e n) sent
sealed-numbers k sent e n i =
    same_numbers k (sealed_up_to k e n) sent (sealed-keys k e n).0 (sealed-keys k e n).1 (λ x. (sealed-keys k e n).2 x) i

module _ (log : ℕ → List Sealed) (gone : List Line) (ivs : ℕ → List ℕ) (over : AllDone gone) (s : Sending) (q : List ℕ) (ds : List (List Queued)) (b : Books)
    (i : Laying log gone ivs s q ds b) (k : ℕ) (m : List ℕ) (d : is_sealed (seal_answer s (length q) k) ≡ true)
    (e t n : ℕ) (x p : List ℕ) (us : List Queued) (y : waiting_of (flat ds) ≡ waits e t n x p ∷ us) where
  abbrev a : SealAnswer
  a = seal_answer s (length q) k

  abbrev new : Sealed
  new = logged e t n x m p

  abbrev log' : ℕ → List Sealed
  log' = upd log e (logged e t n x m p ∷ log e)

  flat-is : flat (after_reply (seal_answer s (length q) k) m ds) ≡ first_in (seal_with m) (flat ds)
  flat-is = ap flat (if_true _ _ d) ∙ flat-first (seal_with m) ds

  -- the number was not sealed before
  pub not_sealed : (r : Sealed) → Mem r (log e) → r.num ≡ n → ⊥
  not_sealed r o z = i.apart e t n x p (first-mem (flat ds) us y) r o z

  -- no other that waits has it
  none-with : (e' t' n' : ℕ) (x' p' : List ℕ) → Mem (waits e' t' n' x' p') (first_in (seal_with m) (flat ds)) → e' ≡ e → n' ≡ n → ⊥
  none-with e' t' n' x' p' o u v =
      first_alone (flat ds) (waits-once s q ds i.holds) e t n x p us y t' x' p'
      (subst (λ (c : ℕ). Mem (waits c t' n x' p') us) u
      (subst (λ (c : ℕ). Mem (waits e' t' c x' p') us) v
      (subst (Mem (waits e' t' n' x' p')) (waiting-sealed m (flat ds) (waits e t n x p) us y)
      (mem-waiting e' t' n' x' p' (first_in (seal_with m) (flat ds)) o))))

  keys-then : Numbers (sealed_state (seal_answer s (length q) k) s q).state.keys b.sent
  unfolding sealed_state
  keys-then =
      subst (λ (u : Sending). Numbers u.keys b.sent) (sym (if_true (after_sealing s q) s d))
      (sealed-numbers s.keys b.sent s.waiting.epoch s.waiting.number i.numbers)

  ivs-then : Ivs (sealed_state (seal_answer s (length q) k) s q).state.keys ivs
  unfolding sealed_state
  ivs-then =
      subst (λ (u : Sending). Ivs u.keys ivs) (sym (if_true (after_sealing s q) s d))
      (sealed-ivs s.keys s.waiting.epoch s.waiting.number ivs i.same-ivs)

  pub reply-lays : Laying log' gone ivs (sealed_state (seal_answer s (length q) k) s q).state (sealed_memory (seal_answer s (length q) k) s m q)
      (after_reply (seal_answer s (length q) k) m ds)
      (record { sent = b.sent; lines = finish e n (masked_header e n (length x + sealed_tail) m ++ p) b.lines })
  reply-lays = record {
    holds = seal_holds s q ds i.holds k m;
    numbers = keys-then;
    same-ivs = ivs-then;
    waiting-sent = λ e' t' n' x' p' o. i.waiting-sent e' t' n' x' p' (still-waits m e' t' n' x' p' (flat ds) (subst (Mem (waits e' t' n' x' p')) flat-is o));
    sealed-sent = λ c r.
        upd-by log e (new ∷ log e) (λ c l. Mem r l → Mem (as_handed r) (b.sent c)) c
        (λ same o.
        subst (λ (v : ℕ). Mem (as_handed r) (b.sent v)) (sym same)
        (mem-by o (λ (z : r ≡ new). subst (λ (v : Sealed). Mem (as_handed v) (b.sent e)) (sym z) (i.waiting-sent e t n x p (first-mem (flat ds) us y))) (λ o'. i.sealed-sent e r o')))
        (λ other o. i.sealed-sent c r o);
    apart = λ e' t' n' x' p' o r.
        let f = subst (Mem (waits e' t' n' x' p')) flat-is o in
        upd-by log e (new ∷ log e) (λ c l. Mem (waits c t' n' x' p') (first_in (seal_with m) (flat ds)) → Mem r l → r.num ≡ n' → ⊥) e'
        (λ same g w z.
        mem-by w (λ (v : r ≡ new). none-with e' t' n' x' p' g same (sym z ∙ ap (λ (u : Sealed). u.num) v))
        (λ w'. i.apart e' t' n' x' p' (still-waits m e' t' n' x' p' (flat ds) g) r (subst (λ (v : ℕ). Mem r (log v)) (sym same) w') z))
        (λ other g w z. i.apart e' t' n' x' p' (still-waits m e' t' n' x' p' (flat ds) g) r w z) f;
    lines = ap (finish e n (masked_header e n (length x + sealed_tail) m ++ p)) i.lines
        ∙ finish-behind e n (masked_header e n (length x + sealed_tail) m ++ p) gone (lines_in (flat ds)) over
        ∙ ap (λ (l : List Line). gone ++ l) (lines-sealed m e t n x p us (flat ds) y ∙ ap lines_in (sym flat-is));
  }
