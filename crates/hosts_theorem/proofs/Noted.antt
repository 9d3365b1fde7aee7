-- The readings that a receiving call of the C library tells, entered in the host's log, are those of the claim. Assumes nothing.
use Rattle.std.specs.Prelude.{ℕ, leb, ltb, length, Bool, List, [], ◌∷◌, ◌≡◌}
use Rattle.std.proofs.Math.Dec.{eqb}
use Rattle.std.proofs.Math.Bool.{true, false}
use mathlib.Core.List.Memᴰ.{head as here}
use Rattle.std.proofs.Math.Path.{refl, sym, ap}
use Rattle.std.proofs.Common.{subst, ◌∙◌}
use Rattle.base.specs.Choose.{choose, if_true, if_false, both_true}
use Rattle.datagram.specs.declared.Reading.TheVariants as says
use Rattle.datagram.specs.declared.Reading.{Reading}
use Rattle.opening_reply.specs.Opening.{shown_by}
use Rattle.receiving.specs.Receiving.{answer_number, begin_of, read_of, opened_of}
use Rattle.receiving.specs.declared.Read.{Read}
use Rattle.receiving.specs.declared.Receiving.{Receiving}
use Rattle.recv_calls.specs.Calls as receive
use Rattle.recv_calls.specs.Flat.{bare, opening_of}
use Rattle.recv_calls.specs.declared.HuskReading.{HuskReading}
use Rattle.words.specs.Fields.{first_of, by-words}
use Rattle.classify.specs.Classify.{words, cleared, noted}
use Rattle.classify_calls.specs.Calls.{noted_by}
use Rattle.classify_calls.specs.Laws.{noted-flat}
use Rattle.classify_theorem.specs.Account.{hears, begins}
use Rattle.classify_theorem.specs.Claim.{Dealings, leaves_behind, missed_by, notes, starts, strays, listens}
use Rattle.history_theorem.proofs.Calls.{begin_told, begin_fine}
use Rattle.history_theorem.specs.Claim.{Refused}
use Rattle.history_theorem.proofs.Reading.{read-sound}
use Rattle.history_theorem.specs.Receiver.{Sealed, Receiver, out_of, read_out, starts_on, begun, begin_owed, after_read, Inbound, Call, begin·, read·, open·, open_over·, does}
use Rattle.history_theorem.proofs.Sound.{Sound}
use Rattle.hosts_theorem.specs.Memory.{Incoming, InCall, husk_receiving_key, husk_receiving_remove, husk_receiving_enable_encryption, husk_receiving_release_application_data, husk_receiving_begin, husk_receiving_begin_read, husk_receiving_read, husk_receiving_mask, husk_receiving_opened, husk_receiving_read_over, husk_receiving_mask_over, husk_receiving_opened_over, host_writes, MadeIn, MadePending}
use Rattle.hosts_theorem.specs.Log.{flat_read, reading_of, reworded, notes_in, starts_in, dealings_to}
use Rattle.hosts_theorem.specs.Claim.{StandsIn, calls_of}
use Rattle.hosts_theorem.proofs.Answers.{reading-back}
use Rattle.hosts_theorem.proofs.In.{opened-answer, long-answer}

abbrev pub listens_all : (ℕ → List Sealed) → Inbound → List Call → Dealings → Dealings
listens_all sealed i [] p = p
listens_all sealed i (c ∷ cs) p = listens_all sealed (does sealed i c) cs (listens i c p)

-- a refusal notes nothing
noted-none : (n : ℕ) (x : List ℕ) → noted_by (bare 0 n) x ≡ x
unfolding noted_by choose
noted-none n x = refl

-- what is noted over none that waits is noted over any, unless it is refused
noted-over : (r : Reading) (x : List ℕ) → length x ≡ words → (Refused r → ⊥) → noted r x ≡ noted r (cleared x)
unfolding first_of
noted-over (says.Plaintext t n s l) x h f = by-words words (λ (w : List ℕ). noted (says.Plaintext t n s l) w ≡ noted (says.Plaintext t n s l) (cleared w)) x h refl
noted-over (says.Unopened b n s l) x h f = by-words words (λ (w : List ℕ). noted (says.Unopened b n s l) w ≡ noted (says.Unopened b n s l) (cleared w)) x h refl
noted-over (says.Opened e n t s l) x h f = by-words words (λ (w : List ℕ). noted (says.Opened e n t s l) w ≡ noted (says.Opened e n t s l) (cleared w)) x h refl
noted-over says.Setting x h f = absurd (f refl)
noted-over says.Reply x h f = absurd (f refl)
noted-over says.End x h f = by-words words (λ (w : List ℕ). cleared w ≡ cleared (cleared w)) x h refl
noted-over says.Incomplete x h f = by-words words (λ (w : List ℕ). cleared w ≡ cleared (cleared w)) x h refl
noted-over says.TooMany x h f = by-words words (λ (w : List ℕ). cleared w ≡ cleared (cleared w)) x h refl
noted-over (says.Dropped r) x h f = by-words words (λ (w : List ℕ). cleared w ≡ cleared (cleared w)) x h refl
noted-over (says.Mask e s) x h f = by-words words (λ (w : List ℕ). cleared w ≡ cleared (cleared w)) x h refl
noted-over (says.Opening e n s g l) x h f = by-words words (λ (w : List ℕ). cleared w ≡ cleared (cleared w)) x h refl

module _ (sealed : ℕ → List Sealed) (h : Incoming) (i : Inbound) (a : StandsIn h i) (o : Sound i.into) (p : Dealings) (x : List ℕ) (s : x ≡ p.words) (long : length x ≡ words) where
  abbrev w : List ℕ
  w = h.words

  abbrev u : Receiver
  u = i.into

  -- nothing is told
  same : (y : List ℕ) → y ≡ x → reworded p y ≡ p
  same y q = ap (reworded p) (q ∙ s)

  -- the words behind an answer that tells a reading
  words_in : (r : HuskReading) (k : Read) (y : List ℕ) → r ≡ flat_read k → y ≡ noted_by r x → y ≡ noted k.reading p.words
  words_in r k y e q =
      q ∙ ap (λ (z : HuskReading). noted_by z x) e ∙ noted-flat k.reading k.nonce x ∙ ap (noted k.reading) s

  told-in : (r : HuskReading) (k : Read) → r ≡ flat_read k → reading_of r ≡ k.reading
  told-in r k e = ap reading_of e ∙ reading-back k.reading k.nonce

  notes-in : (r : HuskReading) (k : Read) (d y : List ℕ) → r ≡ flat_read k → y ≡ noted_by r x → notes_in p r d y ≡ notes p (out_of k d)
  notes-in r k d y e q =
      let t = told-in r k e in
      let z = words_in r k y e q in
      λ j. record {
        words = z j;
        account = hears p.account (t j) (shown_by (t j) d);
        told = p.told;
        dealt = p.dealt;
        missed = missed_by (t j) p.account.pending p.missed;
      }

  strays_in : (r : HuskReading) (k : Read) (d y : List ℕ) → r ≡ flat_read k → y ≡ noted_by r x → reworded p y ≡ strays p (out_of k d)
  strays_in r k d y e q = ap (reworded p) (words_in r k y e q)

  -- ---- answers, by the definitions

  read_is : (r : HuskReading) (v d : List ℕ) → receive.ReadCall r v w d → r ≡ flat_read (read_of u.state d)
  read_is r v d m = m.0 ∙ if_true _ _ a.flat ∙ ap (λ (z : Receiving). flat_read (read_of z d)) a.state

  own_read : (r : HuskReading) (v : List ℕ) → receive.ReadCall r v w h.datagram → r ≡ flat_read (read_of u.state u.datagram)
  own_read r v m = read_is r v h.datagram m ∙ ap (λ (d : List ℕ). flat_read (read_of u.state d)) a.datagram

  open_is : (r : HuskReading) (v : List ℕ) (k len : ℕ) (d : List ℕ) → receive.OpenedCall r v w k len d → leb k 1 ≡ true → r ≡ flat_read (opened_of u.state (opening_of k len) d)
  open_is r v k len d m t = m.0 ∙ if_true _ _ (both_true t ∙ a.flat) ∙ ap (λ (z : Receiving). flat_read (opened_of z (opening_of k len) d)) a.state

  -- a reply neither 0 nor 1 notes nothing
  third : (r : HuskReading) (v : List ℕ) (k len : ℕ) (d y : List ℕ) → receive.OpenedCall r v w k len d → leb k 1 ≡ false → y ≡ noted_by r x → reworded p y ≡ p
  third r v k len d y m t q =
      same y (q ∙ ap (λ (z : HuskReading). noted_by z x) (opened-answer h i a r v k len d m ∙ if_false _ _ t) ∙ noted-none 12 x)

  -- ---- beginning

  begin_in : (r : ℕ) (v d y : List ℕ) → receive.BeginCall r v w (length d) → y ≡ choose (eqb r 0) (cleared x) x → starts_in p (eqb r 0) y ≡ listens i (begin· d) p
  begin_in r v d y m q =
      let e : r ≡ answer_number (begin_of u.state (length d)).answer =
      m.0 ∙ if_true _ _ a.flat ∙ ap (λ (z : Receiving). answer_number (begin_of z (length d)).answer) a.state in
      let t : r ≡ begin_owed d = e ∙ begin_told u o d in
      let z : y ≡ choose (eqb (answer_number (begin_of u.state (length d)).answer) 0) (cleared p.words) p.words =
      q ∙ (λ j. choose (eqb (e j) 0) (cleared (s j)) (s j)) in
      λ j. record {
        words = z j;
        account = choose (eqb (t j) 0) (begins p.account) p.account;
        told = p.told;
        dealt = p.dealt;
        missed = choose (eqb (t j) 0) (leaves_behind p.account.pending p.missed) p.missed;
      }

  starts-at : (done owes t : Bool) → done ≡ t → owes ≡ t → starts p done owes ≡ starts p t t
  starts-at done owes t e f = (λ j. starts p (e j) (f j))

  not_begun : starts p false false ≡ p
  unfolding choose
  not_begun = refl

  long_in : (r : HuskReading) (v d y : List ℕ) → receive.BeginReadCall r v w d → ltb 16384 (length d) ≡ true → y ≡ noted_by r x → reworded p y ≡ listens i (begin· d) p
  unfolding begin_owed
  long_in r v d y m t q =
      let f : eqb (begin_owed d) 0 ≡ false = ap (λ (n : ℕ). eqb n 0) (if_true 1 0 t) in
      same y (q ∙ ap (λ (z : HuskReading). noted_by z x) (long-answer h i a o r v d m t) ∙ noted-none 1 x)
      ∙ sym (starts-at _ _ false (ap (λ (n : ℕ). eqb n 0) (begin_told u o d) ∙ f) f ∙ not_begun)

  module _ (d : List ℕ) (t : ltb 16384 (length d) ≡ false) where
    abbrev s₀ : Receiving
    s₀ = (begin_of u.state (length d)).state

    begun-is : begun u d ≡ starts_on u s₀ d
    unfolding begun
    begun-is = if_false _ _ t

    owes_it : eqb (begin_owed d) 0 ≡ true
    unfolding begin_owed
    owes_it = ap (λ (n : ℕ). eqb n 0) (if_false 1 0 t)

    done_it : eqb (answer_number (begin_of u.state (length d)).answer) 0 ≡ true
    done_it = ap (λ (n : ℕ). eqb n 0) (begin_told u o d) ∙ owes_it

    -- the first read is not refused: no question waits
    read-on : Refused (read_of s₀ d).reading → ⊥
    unfolding after_read
    read-on = (read-sound (starts_on u s₀ d) (subst Sound begun-is (begin_fine u o d).0) sealed).proper _ (here refl)

    first-is : (r : HuskReading) (v : List ℕ) → receive.BeginReadCall r v w d → r ≡ flat_read (read_of s₀ d)
    unfolding receive.first_reading
    first-is r v m =
        m.0 ∙ if_true _ _ a.flat ∙ ap (λ (z : Receiving). receive.first_reading (begin_of z (length d)) d) a.state ∙ if_true _ _ done_it

    begun-words : starts p true true ≡ starts_in p true (cleared p.words)
    unfolding choose
    begun-words = refl

    first-in : (r : HuskReading) (v y : List ℕ) → receive.BeginReadCall r v w d → y ≡ noted_by r x
        → notes_in (starts_in p true y) r d y ≡ listens (does sealed i (begin· d)) read· (listens i (begin· d) p)
    first-in r v y m q =
        let k = read_of s₀ d in
        let e = first-is r v m in
        let n = told-in r k e in
        let z : y ≡ noted k.reading (cleared p.words) =
        words_in r k y e q ∙ noted-over k.reading p.words (ap length (sym s) ∙ long) read-on in
        let c = starts_in p true (cleared p.words) in
        (λ j. record {
          words = z j;
          account = hears c.account (n j) (shown_by (n j) d);
          told = c.told;
          dealt = c.dealt;
          missed = missed_by (n j) c.account.pending c.missed;
        })
        ∙ ap (λ (v : Receiver). notes c (read_out v.state v.datagram)) (sym begun-is)
        ∙ ap (λ (b : Dealings). notes b (read_out (begun u d).state (begun u d).datagram)) (sym (starts-at _ _ true done_it owes_it ∙ begun-words))

  -- ---- every receiving call

  chosen : (t : Bool) (g l : Dealings) (cs ds : List Call) → (t ≡ true → g ≡ listens_all sealed i cs p) → (t ≡ false → l ≡ listens_all sealed i ds p)
      → choose t g l ≡ listens_all sealed i (choose t cs ds) p
  unfolding choose
  chosen true g l cs ds f k = f refl
  chosen false g l cs ds f k = k refl

  -- a choice between two that are alike
  alike : (t : Bool) (g : Dealings) (cs ds : List Call) → (t ≡ true → g ≡ listens_all sealed i cs p) → (t ≡ false → g ≡ listens_all sealed i ds p)
      → g ≡ listens_all sealed i (choose t cs ds) p
  unfolding choose
  alike true g cs ds f k = f refl
  alike false g cs ds f k = k refl

  pub in_dealings : (c : InCall) (y : List ℕ) → MadeIn h c → MadePending c x y → dealings_to p u.datagram c y ≡ listens_all sealed i (calls_of c) p
  in_dealings (husk_receiving_key r v k iv) y m q = same y q
  in_dealings (husk_receiving_remove r v k) y m q = same y q
  in_dealings (husk_receiving_enable_encryption r v) y m q = same y q
  in_dealings (husk_receiving_release_application_data r v) y m q = same y q
  in_dealings (husk_receiving_begin r v d) y m q = begin_in r v d y m q
  in_dealings (husk_receiving_begin_read r v d) y m q =
      chosen (ltb 16384 (length d)) _ _ (begin· d ∷ []) (begin· d ∷ read· ∷ []) (λ t. long_in r v d y m t q) (λ t. first-in d t r v y m q)
  in_dealings (husk_receiving_read r v) y m q = notes-in r (read_of u.state u.datagram) u.datagram y (own_read r v m) q
  in_dealings (husk_receiving_mask r v n₀ n₁ e) y m q = same y q
  in_dealings (husk_receiving_opened r v k len) y m q =
      chosen (leb k 1) _ _ (open· (opening_of k len) ∷ []) []
      (λ t. notes-in r (opened_of u.state (opening_of k len) u.datagram) u.datagram y (open_is r v k len h.datagram m t ∙ ap (λ (d : List ℕ). flat_read (opened_of u.state (opening_of k len) d)) a.datagram) q)
      (λ t. third r v k len h.datagram y m t q)
  in_dealings (husk_receiving_read_over r v d) y m q = strays_in r (read_of u.state d) d y (read_is r v d m) q
  in_dealings (husk_receiving_mask_over r v n₀ n₁ e d) y m q = same y q
  in_dealings (husk_receiving_opened_over r v k len d) y m q =
      alike (leb k 1) _ (open_over· (opening_of k len) d ∷ []) [] (λ t. strays_in r (opened_of u.state (opening_of k len) d) d y (open_is r v k len d m t) q)
      (λ t. third r v k len d y m t q)
  in_dealings (host_writes r b) y m q = same y q
