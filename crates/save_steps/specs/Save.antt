-- What a record sent and saved reads and writes of the words, and that its steps are the definition's. Assumes nothing.
use Rattle.std.specs.Prelude.{true, false, List, ◌≡◌, refl, ℕ, zero, suc, ◌+◌, ◌*◌, ◌≤◌, ◌<◌, ◌%◌, ltb, length, get_or, set, leb, Result, Ok, Err}
use Rattle.std.proofs.lemmas.Bool.{false≢true, lt-leb}
use Rattle.std.proofs.Common.{⊎_elim, sym, subst, ◌∙◌, arith, le-leb, le-ltb, ltb-false, length-set, get_or-set_same, get_or-set_other}
use Rattle.std.proofs.Math.Path.{ap}
use Rattle.base.specs.Choose.{choose, if_true, if_false, test_cases, eq-or_ne}
use Rattle.base.specs.Parts.{splice}
use Rattle.queue.specs.declared.Place.{Place}
use Rattle.queue.specs.Queue.{is_ready}
use Rattle.send_keys.specs.Keys.{is_usable, is_keyed, next_of}
use Rattle.outgoing.specs.declared.Sending.{Sending}
use Rattle.send_keys.specs.declared.SendError.{SendError}
use Rattle.send_keys.specs.declared.SendError.TheVariants.{OutOfRange, FlightFull}
use Rattle.outgoing.specs.State.{is_allowed}
use Rattle.outgoing.specs.Send.{laid_state, laid_memory}
use Rattle.flight.specs.declared.Entry.{Entry}
use Rattle.flight.specs.declared.Flight.{Flight}
use Rattle.flight.specs.Flight.{entry_of, counted, is_kept, saved_with, saved_memory}
use Rattle.flight.specs.Save.{save_answer, save_state, save_queue, save_kept, answer-counted}
use Rattle.words.specs.Fields.{first_of, by-words, low-back}
use Rattle.send_words.specs.Words.{state_of, is_flat}
use Rattle.send_words.specs.Partly.{Partly}
use Rattle.send_steps.specs.Steps.{placed, epoch_answer, room_answer, behind, tests-behind}
use Rattle.flight_words.specs.Words.{words, type_at, epoch-at, number_at, length_at, marked-at, remembered_at, saved-at, entries_of, flight_of, flat_to, put_entry, LowEntry}
use Rattle.send_keys.specs.Answer.{SendAnswer, is_done}

-- ---- the answer

-- 18 goes before 19 and 20, and behind the others
abbrev saved_room : Sending → Flight → ℕ → ℕ → SendAnswer
saved_room s f e n = choose (leb 12 f.saved) (Err FlightFull) (room_answer s e n)

in-turn : (s : Sending) (f : Flight) (room kept e t n : ℕ) → is_ready s.queue room ≡ true → is_kept f s.queue.mtu kept ≡ true
    → save_answer s f room kept e t n ≡ behind (epoch_answer s e t n) (saved_room s f e n)
unfolding save_answer epoch_answer room_answer
in-turn s f room kept e t n r k =
    if_true _ _ r ∙ if_true _ _ k ∙ sym (tests-behind (is_usable s.keys e) (is_allowed s.queue.mtu e t n) (is_keyed s.keys e) (saved_room s f e n))

module _ (s : Sending) (f : Flight) (room kept e t n : ℕ) (p : Place) where
  pub not_ready : is_ready s.queue room ≡ false → Err OutOfRange ≡ placed (save_answer s f room kept e t n) p
  unfolding save_answer
  not_ready r = ap (λ (a : SendAnswer). placed a p) (sym (if_false _ _ r))

  module _ (r : is_ready s.queue room ≡ true) where
    pub not_kept : is_kept f s.queue.mtu kept ≡ false → Err OutOfRange ≡ placed (save_answer s f room kept e t n) p
    unfolding save_answer
    not_kept k = ap (λ (a : SendAnswer). placed a p) (sym (if_true _ _ r ∙ if_false _ _ k))

    module _ (k : is_kept f s.queue.mtu kept ≡ true) where
      answer-by : {a b : SendAnswer} → epoch_answer s e t n ≡ a → saved_room s f e n ≡ b → save_answer s f room kept e t n ≡ behind a b
      answer-by {a} h g = in-turn s f room kept e t n r k ∙ ap (λ (x : SendAnswer). behind x (saved_room s f e n)) h ∙ ap (behind a) g

      pub not_sent : {x : SendError} → epoch_answer s e t n ≡ Err x → Err x ≡ placed (save_answer s f room kept e t n) p
      not_sent h = ap (λ (a : SendAnswer). placed a p) (sym (answer-by h refl))

      module _ (h : epoch_answer s e t n ≡ Ok tt) where
        pub flight_full : 12 ≤ f.saved → Err FlightFull ≡ placed (save_answer s f room kept e t n) p
        flight_full g = ap (λ (a : SendAnswer). placed a p) (sym (answer-by h (if_true _ _ (le-leb 12 f.saved g))))

        pub then_placed : f.saved < 12 → {v : Result Place SendError} → v ≡ placed (room_answer s e n) p → v ≡ placed (save_answer s f room kept e t n) p
        then_placed g v = v ∙ ap (λ (a : SendAnswer). placed a p) (sym (answer-by h (if_false _ _ (lt-leb _ _ g))))

-- ---- an entry written

-- a record more: the words f before, g behind, whatever the table of numbers
abbrev pub Adds : ℕ → ℕ → ℕ → ℕ → List ℕ → List ℕ → Type 0
Adds t e x n f g = ((l : List ℕ) → flight_of g l ≡ saved_with (flight_of f l) t e x n) × (flat_to f 12 ≡ true → flat_to g 12 ≡ true)

abbrev pub new_entry : ℕ → ℕ → ℕ → ℕ → Entry
new_entry t e x n = record { content_type = t; epoch = e; number = x; length = n; marked = false; remembered = 0 }

abbrev pub put_saved : ℕ → ℕ → ℕ → ℕ → ℕ → ℕ → List ℕ → List ℕ
put_saved i t e x n k w = set (put_entry i (new_entry t e x n) w) saved-at k

abbrev Puts : ℕ → ℕ → ℕ → ℕ → ℕ → ℕ → List ℕ → Type 0
Puts i t e x n k w =
    (entries_of (put_saved i t e x n k w) ≡ set (entries_of w) i (new_entry (t % 256) (e % 65536) x n))
    × (get_or (put_saved i t e x n k w) saved-at 0 ≡ k)

-- marks stay 0 or 1 where a word is written that is none, or that low
flat-set : (w : List ℕ) (p x n : ℕ) → p < length w → ((j : ℕ) → p ≡ marked-at j → x ≤ 1) → flat_to w n ≡ true → flat_to (set w p x) n ≡ true
unfolding flat_to
flat-set w p x zero l f h = refl
flat-set w p x (suc n) l f h =
    test_cases (ltb 1 (get_or w (marked-at n) 0))
    (λ e. absurd (false≢true (sym (if_true _ _ e) ∙ h)))
    (λ e.
    let y : get_or (set w p x) (marked-at n) 0 ≤ 1 =
    ⊎_elim (λ q. subst (λ (m : ℕ). get_or (set w p x) m 0 ≤ 1) q (rw (get_or-set_same w p x 0 l) (f n q)))
    (λ q. rw (get_or-set_other w p (marked-at n) x 0 (λ z. q (sym z))) (ltb-false 1 (get_or w (marked-at n) 0) e))
    (eq-or_ne p (marked-at n)) in
    if_false _ _ (le-ltb _ _ y) ∙ flat-set w p x n l f (sym (if_false _ _ e) ∙ h))

flat-put : (i t e x n k : ℕ) (w : List ℕ) → i < 12 → length w ≡ words → flat_to w 12 ≡ true → flat_to (put_saved i t e x n k w) 12 ≡ true
flat-put i t e x n k w l h f =
    flat-set _ saved-at k 12 (simp length-set (omega arith)) (λ j z. absurd (omega arith))
    (flat-set _ (remembered_at i) 0 12 (simp length-set (omega arith)) (λ j z. omega arith)
    (flat-set _ (marked-at i) 0 12 (simp length-set (omega arith)) (λ j z. omega arith)
    (flat-set _ (length_at i) n 12 (simp length-set (omega arith)) (λ j z. absurd (omega arith))
    (flat-set _ (number_at i) x 12 (simp length-set (omega arith)) (λ j z. absurd (omega arith))
    (flat-set _ (epoch-at i) e 12 (simp length-set (omega arith)) (λ j z. absurd (omega arith))
    (flat-set w (type_at i) t 12 (omega arith) (λ j z. absurd (omega arith)) f))))))

puts : (i : ℕ) (t e x n k : ℕ) (w : List ℕ) → i < 12 → length w ≡ words → Puts i t e x n k w
unfolding first_of entries_of
puts zero t e x n k w l h = by-words words (Puts 0 t e x n k) w h (refl, refl)
puts (suc zero) t e x n k w l h = by-words words (Puts 1 t e x n k) w h (refl, refl)
puts (suc (suc zero)) t e x n k w l h = by-words words (Puts 2 t e x n k) w h (refl, refl)
puts (suc (suc (suc zero))) t e x n k w l h = by-words words (Puts 3 t e x n k) w h (refl, refl)
puts (suc (suc (suc (suc zero)))) t e x n k w l h = by-words words (Puts 4 t e x n k) w h (refl, refl)
puts (suc (suc (suc (suc (suc zero))))) t e x n k w l h = by-words words (Puts 5 t e x n k) w h (refl, refl)
puts (suc (suc (suc (suc (suc (suc zero)))))) t e x n k w l h = by-words words (Puts 6 t e x n k) w h (refl, refl)
puts (suc (suc (suc (suc (suc (suc (suc zero))))))) t e x n k w l h = by-words words (Puts 7 t e x n k) w h (refl, refl)
puts (suc (suc (suc (suc (suc (suc (suc (suc zero)))))))) t e x n k w l h = by-words words (Puts 8 t e x n k) w h (refl, refl)
puts (suc (suc (suc (suc (suc (suc (suc (suc (suc zero))))))))) t e x n k w l h = by-words words (Puts 9 t e x n k) w h (refl, refl)
puts (suc (suc (suc (suc (suc (suc (suc (suc (suc (suc zero)))))))))) t e x n k w l h = by-words words (Puts 10 t e x n k) w h (refl, refl)
puts (suc (suc (suc (suc (suc (suc (suc (suc (suc (suc (suc zero))))))))))) t e x n k w l h = by-words words (Puts 11 t e x n k) w h (refl, refl)
puts (suc (suc (suc (suc (suc (suc (suc (suc (suc (suc (suc (suc i)))))))))))) t e x n k w l h = absurd (omega arith)

pub adds : (t e x n : ℕ) (w v : List ℕ) → length w ≡ words → get_or w saved-at 0 < 12 → v ≡ put_entry (get_or w saved-at 0) (new_entry t e x n) w → LowEntry (new_entry t e x n)
    → Adds t e x n w (set v saved-at (get_or w saved-at 0 + 1))
unfolding saved_with entry_of
adds t e x n w v h l p b =
    let i = get_or w saved-at 0 in
    let q = puts i t e x n (i + 1) w l h in
    let a : t % 256 ≡ t = omega (arith, b.0) in
    rw p (
      λ m. ap (λ (y : List Entry). record { entries = y; saved = get_or (put_saved i t e x n (i + 1) w) saved-at 0; numbers = m }) (q.0 ∙ rw (a, low-back b.1))
          ∙ ap (λ (y : ℕ). record { entries = set (entries_of w) i (new_entry t e x n); saved = y; numbers = m }) q.1,
      flat-put i t e x n (i + 1) w l h,
    )

-- ---- a record sent and saved: x its content; words w and f, queue q, contents k before; v, g, p, j behind

pub record Saves (a : SendAnswer) (e t : ℕ) (x w v f g q p k j : List ℕ) : Type 0 where
  pub saved : (l : List ℕ) → record { answer = a; state = state_of v; flight = flight_of g l } ≡ save_state (state_of w) (flight_of f l) (length q) (length k) e t (length x)
  pub queue : (l : List ℕ) → p ≡ save_queue (state_of w) (flight_of f l) (length k) e t x q
  pub kept : (l : List ℕ) → j ≡ save_kept (state_of w) (flight_of f l) (length q) e t x k
  pub flat : is_flat w ≡ true → is_flat v ≡ true
  pub marks : flat_to f 12 ≡ true → flat_to g 12 ≡ true

module _ {a : SendAnswer} (e t : ℕ) (x w f q k : List ℕ) (h : a ≡ save_answer (state_of w) (counted (get_or f saved-at 0)) (length q) (length k) e t (length x)) where
  same : (l : List ℕ) → save_answer (state_of w) (flight_of f l) (length q) (length k) e t (length x) ≡ a
  same l = sym (h ∙ answer-counted (state_of w) (flight_of f l) (length q) (length k) e t (length x))

  pub saves-laid : (v g p j : List ℕ) → is_done a ≡ true → Partly (laid_state (state_of w) e (length x)) w v → p ≡ laid_memory (state_of w) e t x q
      → Adds t e (next_of (state_of w).keys e) (length x) f g → j ≡ splice (get_or f saved-at 0 * (state_of w).queue.mtu) x k → Saves a e t x w v f g q p k j
  unfolding save_state save_queue save_kept saved_memory
  saves-laid v g p j d s m b c =
      record {
        saved = λ l. rw (same l, s.0, b.0 l, if_true _ _ d, if_true _ _ d);
        queue = λ l. rw (same l, if_true _ _ d) m;
        kept = λ l. rw (same l, if_true _ _ d) c;
        flat = s.1;
        marks = b.1;
      }

  pub saves-nothing : is_done a ≡ false → Saves a e t x w w f f q q k k
  unfolding save_state save_queue save_kept
  saves-nothing d =
      record {
        saved = λ l. rw (same l, if_false _ _ d, if_false _ _ d);
        queue = λ l. rw (same l, if_false _ _ d);
        kept = λ l. rw (same l, if_false _ _ d);
        flat = λ y. y;
        marks = λ y. y;
      }
