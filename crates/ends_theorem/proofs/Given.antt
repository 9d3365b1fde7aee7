-- What the host wrote into the part lent for a sealing lies there until its reply, and a take changes the host's buffer by the datagram alone. Assumes
-- nothing.
use Rattle.std.specs.Prelude.{ℕ, ◌*◌, length, drop, true, ◌≡◌, refl, Ok, Err}
use Rattle.std.proofs.Math.Dec.{eqb}
use Rattle.std.proofs.Common.{length-take, length-drop, sym, subst, ◌∙◌, arith}
use Rattle.std.proofs.lemmas.Bool.{false≢true}
use mathlib.Core.List.{List, [], ◌∷◌, ◌++◌, Memᴰ as Mem}
use Rattle.std.proofs.Math.Option.{Option, none, some}
use Rattle.std.proofs.Math.Path.{ap}
use Rattle.base.specs.Choose.{if_true, by_test, test_cases}
use Rattle.base.specs.Parts.{part, splice, length-splice}
use Rattle.outgoing.specs.declared.Sending.{Sending}
use Rattle.sealing.specs.declared.SealError.TheVariants as replied
use Rattle.sealing.specs.Sealing as sealing
use Rattle.sealing.specs.Sealing.{SealAnswer, Asked, part_start, question_of, is_put, seal_answer, is_sealed}
use Rattle.taking.specs.Laws.{kept_buffer}
use Rattle.taking.specs.Take.{TakeAnswer, front_len, take_answer, is_taken, take_buffer, takes, front_fits}
use Rattle.waiting_laws.specs.Answers.{take_reply, answered}
use Rattle.waiting_laws.specs.Calls.{Stores, SendCall, key_send·, send·, save·, message·, begin_flight·, resend·, note·, send_ack·, ack·, fill·, sealed·, take·, stored, Reply}
use Rattle.waiting_laws.proofs.Effects.{Effect, stays, adds, writes, seals, takes as taken}
use Rattle.waiting_laws.proofs.First.{put_with, flat-first}
use Rattle.waiting_laws.proofs.Lists.{waiting-append}
use Rattle.waiting_laws.proofs.Oldest.{waiting-cases, names-first, question-shows, question-none, waiting-put, waiting-later, not_put, put_test}
use Rattle.waiting_laws.specs.Queued.{Queued, plain, waits, sealed, flat, waiting_of, Holds}
use Rattle.waiting_laws.proofs.Runs.{after, Narrow, call_holds, call_effect}
use Rattle.waiting_laws.proofs.Seals.{after_put}
use Rattle.waiting_laws.specs.Takes.{after_taken}
use Rattle.waiting_laws.proofs.Takes.{taken-settled}
use Rattle.history_theorem.proofs.Lists.{by_both, mem-by, some_inj, some≢none, splice-behind}
use Rattle.ends_theorem.proofs.Asked.{LentIs, lent_for, part-is}
use Rattle.ends_theorem.specs.Sender.{Lent}
use Rattle.ends_theorem.specs.Claim.{TookOnly}
use Rattle.taking.specs.Laws.{taken-length}
use Rattle.ends_theorem.specs.World.{Took, given_in, given_by, took_by}

-- ---- the first that waits has the host's bytes

abbrev pub GivenIs : Option (List ℕ) → List Queued → Type 0
GivenIs none ws = Unit {0}
GivenIs (some v) [] = ⊥
GivenIs (some v) (plain t n x ∷ ws) = ⊥
GivenIs (some v) (waits e t n x p ∷ ws) = p ≡ v
GivenIs (some v) (sealed e t n x m p ∷ ws) = ⊥

-- more behind it
given-longer : (o : Option (List ℕ)) (ws more : List Queued) → GivenIs o ws → GivenIs o (ws ++ more)
given-longer none ws more g = tt
given-longer (some v) [] more g = absurd g
given-longer (some v) (plain t n x ∷ ws) more g = g
given-longer (some v) (waits e t n x p ∷ ws) more g = g
given-longer (some v) (sealed e t n x m p ∷ ws) more g = g

-- a call that only adds records, or does nothing to them
abbrev Aside : {rs us : List Queued} → Effect rs us → Type 0
Aside (stays s) = Unit {0}
Aside (adds more a s) = Unit {0}
Aside (writes v s) = ⊥
Aside (seals m s) = ⊥
Aside (taken d t s) = ⊥

given-aside : (o : Option (List ℕ)) (rs us : List Queued) (f : Effect rs us) → Aside f → GivenIs o (waiting_of rs) → GivenIs o (waiting_of us)
given-aside o rs us (stays s) a g = subst (λ (l : List Queued). GivenIs o (waiting_of l)) (sym s) g
given-aside o rs us (adds more b s) a g =
    subst (GivenIs o) (sym (ap waiting_of s ∙ waiting-append rs more)) (given-longer o (waiting_of rs) (waiting_of more) g)
given-aside o rs us (writes v s) a g = absurd a
given-aside o rs us (seals m s) a g = absurd a
given-aside o rs us (taken d t s) a g = absurd a

-- the memory means datagrams of which that holds
pub record Given (s : Sending) (q : List ℕ) (o : Option (List ℕ)) : Type 0 where
  pub ds : List (List Queued)
  pub holds : Holds s q ds
  pub is : GivenIs o (waiting_of (flat ds))

-- ---- through every call

sealed-zero : (a : SealAnswer) → eqb (sealing.refusal a) 0 ≡ is_sealed a
sealed-zero (Ok u) = refl
sealed-zero (Err replied.OutOfRange) = refl
sealed-zero (Err replied.NoQuestion) = refl

-- the host's writing takes place where a record waits and the length is its part's
module _ (s : Sending) (q : List ℕ) (ds : List (List Queued)) (h : Holds s q ds) (v : List ℕ) where
  abbrev put_ds : List (List Queued)
  put_ds = after_put (is_put s (length v) (length q)) v ds

  none-put : waiting_of (flat ds) ≡ [] → (o : Option (List ℕ)) → GivenIs o (waiting_of (flat ds)) → GivenIs (given_in (question_of s) v o) (waiting_of (flat put_ds))
  none-put z o g =
      subst (λ (r : Asked). GivenIs (given_in r v o) (waiting_of (flat put_ds))) (sym (question-none s q ds h z))
      (by_test (λ (us : List (List Queued)). GivenIs o (waiting_of (flat us))) (λ y. absurd (false≢true (sym (not_put s q ds h z v) ∙ y))) (λ y. g))

  one-put : (e t n : ℕ) (x p : List ℕ) (us : List Queued) → waiting_of (flat ds) ≡ waits e t n x p ∷ us → (o : Option (List ℕ)) → GivenIs o (waiting_of (flat ds))
      → GivenIs (given_in (question_of s) v o) (waiting_of (flat put_ds))
  one-put e t n x p us y o g =
      subst (λ (r : Asked). GivenIs (given_in r v o) (waiting_of (flat put_ds))) (sym (question-shows s q ds h e t n x p us y))
      (by_both (λ (a : Option (List ℕ)) (ws : List (List Queued)). GivenIs a (waiting_of (flat ws))) (put_test s q ds h e t n x p us y v)
      (λ z. subst (GivenIs (some v)) (sym (ap waiting_of (flat-first (put_with v) ds) ∙ waiting-put v (flat ds) (waits e t n x p) us y)) refl) (λ z. g))

  pub given-put : (o : Option (List ℕ)) → GivenIs o (waiting_of (flat ds)) → GivenIs (given_in (question_of s) v o) (waiting_of (flat put_ds))
  given-put o g = waiting-cases (flat ds) (waiting_of (flat ds)) refl (λ z. none-put z o g) (λ e t n x p us y z. one-put e t n x p us y o g)

module _ (w : Stores) (o : Option (List ℕ)) (g : Given w.state w.queue o) where
  by_call : (c : SendCall) (o' : Option (List ℕ)) → Narrow c → GivenIs o' (waiting_of (flat (after w c g.ds))) → Given (stored w c).state (stored w c).queue o'
  by_call c o' n i = record { ds = after w c g.ds; holds = call_holds w c g.ds n g.holds; is = i }

  aside : (c : SendCall) → Narrow c → Aside (call_effect w c g.ds g.holds) → Given (stored w c).state (stored w c).queue o
  aside c n a = by_call c o n (given-aside o _ _ (call_effect w c g.ds g.holds) a g.is)

  -- a record taken did not wait
  take-is : (have : ℕ) (ds : List (List Queued)) → Holds w.state w.queue ds → GivenIs o (waiting_of (flat ds))
      → GivenIs o (waiting_of (flat (after_taken (take_answer w.state (length w.queue) have) ds)))
  take-is have [] h i = i
  take-is have (d ∷ ds) h i =
      by_test (λ (us : List (List Queued)). GivenIs o (waiting_of (flat us)))
      (λ t. subst (GivenIs o) (waiting-later d (flat ds) (taken-settled w.state w.queue d ds h have t)) i) (λ t. i)

  pub given-keeps : (r : Reply) (c : SendCall) → r ≡ answered w c → Narrow c → Given (stored w c).state (stored w c).queue (given_by w r c o)
  unfolding call_effect
  given-keeps r (key_send· e iv) is n = aside (key_send· e iv) n tt
  given-keeps r (send· e t x) is n = aside (send· e t x) n tt
  given-keeps r (save· e t x) is n = aside (save· e t x) n tt
  given-keeps r (message· kind body) is n = aside (message· kind body) n tt
  given-keeps r begin_flight· is n = aside begin_flight· n tt
  given-keeps r resend· is n = aside resend· n tt
  given-keeps r (note· e k) is n = aside (note· e k) n tt
  given-keeps r send_ack· is n = aside send_ack· n tt
  given-keeps r (ack· d) is n = aside (ack· d) n tt
  given-keeps r (fill· v) is n = by_call (fill· v) _ n (given-put w.state w.queue g.ds g.holds v o g.is)
  given-keeps r (sealed· k m) is n =
      let a : SealAnswer = seal_answer w.state (length w.queue) k in
      let same : eqb r.number 0 ≡ is_sealed a = ap (λ (k : Reply). eqb k.number 0) is ∙ sealed-zero a in
      by_call (sealed· k m) _ n
      (by_both (λ (a : Option (List ℕ)) (us : List (List Queued)). GivenIs a (waiting_of (flat us))) (sym same) (λ z. tt) (λ z. g.is))
  given-keeps r (take· b) is n = by_call (take· b) o n (take-is (length b) g.ds g.holds g.is)

-- ---- so it lies where the question shows

pub given-lies : (s : Sending) (q : List ℕ) (o : Option (List ℕ)) → Given s q o → (ds : List (List Queued)) → Holds s q ds → (a : Option Lent) → LentIs s a (waiting_of (flat ds))
    → (l : Lent) → a ≡ some l → (v : List ℕ) → o ≡ some v → part l.place l.size q ≡ v
given-lies s q o g ds h a i l shown v gave =
    let given : GivenIs (some v) (waiting_of (flat g.ds)) = subst (λ (b : Option (List ℕ)). GivenIs b (waiting_of (flat g.ds))) gave g.is in
    waiting-cases (flat g.ds) (waiting_of (flat g.ds)) refl (λ z. absurd (subst (GivenIs (some v)) z given))
    (λ e t n x p us y z.
    waiting-cases (flat ds) (waiting_of (flat ds)) refl (λ z'. some≢none (sym shown ∙ subst (LentIs s a) z' i))
    (λ e' t' n' x' p' us' y' z'.
    let is : l ≡ lent_for s e' t' n' x' = some_inj (sym shown ∙ subst (LentIs s a) z' i) in
    let f = names-first s q g.ds g.holds e t n x p us y in
    let f' = names-first s q ds h e' t' n' x' p' us' y' in
    ap (λ (m : Lent). part m.place m.size q) is ∙ ap (λ (k : ℕ). part (part_start s) k q) (sym f'.size ∙ f.size)
    ∙ part-is s q g.ds g.holds e t n x p us y ∙ subst (GivenIs (some v)) z given))

-- ---- a take

pub took-only : (s : Sending) (q b : List ℕ)
    → TookOnly (record { reply = take_reply (take_answer s (length q) (length b)); before = b; behind = take_buffer (take_answer s (length q) (length b)) s q b })
took-only s q b =
    test_cases (is_taken (take_answer s (length q) (length b)))
    (λ t.
    let bytes : List ℕ = part (s.queue.first * s.queue.mtu) (front_len s) q in
    let told = taken-length s (length q) (length b) t in
    let fits = takes s (length q) (length b) t in
    let long : length bytes ≡ front_len s = simp (length-take, length-drop) (omega (arith, (front_fits fits).0)) in
    let behind : take_buffer (take_answer s (length q) (length b)) s q b ≡ splice 0 bytes b = taken_buffer s q b t in
    record {
      long = ap length behind ∙ length-splice 0 bytes b (omega (arith, fits.fits));
      taken = λ z.
          subst (λ (a : TakeAnswer). drop (take_reply a).told (take_buffer (take_answer s (length q) (length b)) s q b) ≡ drop (take_reply a).told b) (sym told)
          (ap (drop (front_len s)) behind ∙ splice-behind 0 bytes b (omega (arith, fits.fits)) (front_len s) (omega arith));
      refused = λ ne. absurd (ne (ap (λ (a : TakeAnswer). (take_reply a).number) told));
    })
    (λ t. let same = kept_buffer (take_answer s (length q) (length b)) t s q b in record { long = ap length same; taken = λ z. ap (drop (take_reply (take_answer s (length q) (length b))).told) same; refused = λ ne. same })
  where
    taken_buffer : (s : Sending) (q b : List ℕ) → is_taken (take_answer s (length q) (length b)) ≡ true
        → take_buffer (take_answer s (length q) (length b)) s q b ≡ splice 0 (part (s.queue.first * s.queue.mtu) (front_len s) q) b
    taken_buffer s q b t = unfold take_buffer in (if_true _ _ t)

-- in the log of takes
more-took : (t : Took) (ts : List Took) → TookOnly t → ((u : Took) → Mem u ts → TookOnly u) → (u : Took) → Mem u (t ∷ ts) → TookOnly u
more-took t ts new old u m = mem-by m (λ (p : u ≡ t). subst TookOnly (sym p) new) (λ o. old u o)

pub took-all : (w : Stores) (c : SendCall) (ts : List Took) → ((u : Took) → Mem u ts → TookOnly u) → (u : Took) → Mem u (took_by w c ts) → TookOnly u
took-all w (key_send· e iv) ts old = old
took-all w (send· e t x) ts old = old
took-all w (save· e t x) ts old = old
took-all w (message· kind body) ts old = old
took-all w begin_flight· ts old = old
took-all w resend· ts old = old
took-all w (note· e n) ts old = old
took-all w send_ack· ts old = old
took-all w (ack· d) ts old = old
took-all w (fill· v) ts old = old
took-all w (sealed· n m) ts old = old
took-all w (take· b) ts old = more-took _ ts (took-only w.state w.queue b) old
