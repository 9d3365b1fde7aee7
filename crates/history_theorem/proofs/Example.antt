-- Worked lists whose premises are met, computed: records out of order, doubled and forged; a doubled record in front of a new one; a removal
-- under a question; a sixteenth and a seventeenth reading; a plaintext record and an unopened one; an alert that is told; keys refused; the edges
-- of the reach, and of that of an epoch of which nothing was used. Assumes nothing.
use Rattle.std.specs.Prelude.{ℕ, zero, suc, ◌+◌, ◌≤◌, ◌<◌, eqb, length, replicate, take, Bool, true, false, ◌↔◌, ◌≡◌, refl, Some, None}
use Rattle.std.proofs.lemmas.Bool.{eqb-false, false≢true}
use mathlib.Core.List.Memᴰ.{head as here}
use mathlib.Core.List.Memᴰ.{tail as there}
use mathlib.Core.List.{List, [], ◌∷◌, ◌++◌, Memᴰ as Mem}
use Rattle.std.proofs.Math.Option.{none, some}
use Rattle.std.proofs.Common.{sym, ap, subst, ◌∙◌, arith}
use Rattle.base.specs.Choose.{choose, both, either, both_left, both_right, by_test}
use Rattle.base.specs.Parts.{splice}
use Rattle.base.specs.Bits.{bit}
use Rattle.datagram.specs.Datagram.{ask_sound, ask_keyed, opening_sound, question_sound, is_sound, counted}
use Rattle.datagram.specs.declared.Reading.TheVariants as says
use Rattle.datagram.specs.declared.Reason.TheVariants as reason
use Rattle.datagram.specs.declared.Reading.{Reading}
use Rattle.dtls_aead.specs.Nonce.{nonce_of}
use Rattle.incoming.specs.Inner.{inner_of}
use Rattle.mask_reply.specs.Mask.{unmasked, rebuilt, judged, masked_at, masked_by, masking, mask_step}
use Rattle.opening_reply.specs.Opening.{typed, opened_at, opened_by, openings, opened_step, cancelled_ask, cancelled}
use Rattle.receiving.specs.Receiving.{fresh_of, key_of, leaving, removed_by, remove_of, encrypt_of, release_of, begin_of}
use Rattle.record.specs.Record.{header_length, fragment_len, partial_of, parse_ciphertext, is_type, is_version, is_plaintext, plaintext_header, parse_plaintext, parsed, unified_header}
use Rattle.records.specs.Records.{locked_step, sealed_step, step_of, opening_asked, asked_again, asking, read_step}
use Rattle.recv_keys.specs.Keys.{fits, last_fit, find, two, resolve, was_found, is_keyed, marked, app_one, apps, windows_sound, keys_sound, is_full, installed, left_at, left}
use Rattle.sealing.specs.Sealing.{masked_header}
use Rattle.sequence.specs.Sequence.{own, below, above, nearest}
use Rattle.window.specs.Used.{expected, above as aboveUsed}
use Rattle.window.specs.Window.{verdict, marking}
use Rattle.history_theorem.specs.Account.{tag_size, upd, key_owed, keys, resolves_to, sealed_size, plain_size, record_size, good_plain}
use Rattle.history_theorem.specs.Claim.{Masks, Opens, window_marks, reach_of, Due, Known, PlainDue, UnopenedDue}
use Rattle.history_theorem.specs.Half.{Shape, Event, here·, far·, fresh_half, run, Honest}
use Rattle.history_theorem.proofs.Lists.{some_inj, mem-by, some≢none}
use Rattle.history_theorem.specs.Receiver.{Sealed, Trial, Tried, Lost, Told, removed_from, removed, remove_owed, begun, begin_owed, after_read, after_mask, after_open, key·, remove·, encrypt·, begin·, read·, mask·, write·, open·, finish·}

-- a record of one byte of application data, under a cipher that appends sixteen sevens, and one mask for all
sealed_as : ℕ → ℕ → ℕ → Sealed
sealed_as e n c = record {
  num = n;
  type = 23;
  content = c ∷ [];
  header = unified_header e n 18;
  cipher = c ∷ 23 ∷ replicate tag_size 7;
  wire = masked_header e n 18 (1 ∷ 2 ∷ []) ++ (c ∷ 23 ∷ replicate tag_size 7);
}

-- one record in a datagram of its own, read, unmasked and opened
arrives : Sealed → ℕ → List Event → List Event
arrives r c rest =
    here· (begin· r.wire) ∷ here· read· ∷ here· (mask· (1 ∷ 2 ∷ [])) ∷ here· (write· (c ∷ 23 ∷ [])) ∷ here· (open· (Some 2)) ∷ rest

-- the same bytes once more: dropped when the mask shows the number
doubled : Sealed → List Event → List Event
doubled r rest = here· (begin· r.wire) ∷ here· read· ∷ here· (mask· (1 ∷ 2 ∷ [])) ∷ rest

-- an invented record under a number, and one under number 9 that the cipher does not open
invented : ℕ → List Event → List Event
invented n rest = here· (begin· (masked_header 2 n 18 (1 ∷ 2 ∷ []) ++ replicate 18 5)) ∷ here· read· ∷ here· (mask· (1 ∷ 2 ∷ [])) ∷ rest

forged : List Event → List Event
forged rest = invented 9 (here· (open· None) ∷ rest)

-- ---- premises that are met

one_mask : Masks
one_mask e l = 1 ∷ 2 ∷ []

shape : (e n c : ℕ) → n ≤ 0xFFFF_FFFF_FFFF → Shape one_mask e (sealed_as e n c)
unfolding one_mask sealed_as
shape e n c low = record { typed = λ z. omega arith; size = refl; short = omega arith; number = low; header = refl; wire = refl }

-- no record of the list has number n
abbrev pub free : ℕ → List Sealed → Bool
free n [] = true
free n (r ∷ l) = choose (eqb r.num n) false (free n l)

abbrev pub distinct : List Sealed → Bool
distinct [] = true
distinct (r ∷ l) = both (free r.num l) (distinct l)

free_not : (n : ℕ) (l : List Sealed) → free n l ≡ true → (q : Sealed) → Mem q l → q.num ≡ n → ⊥
free_not n [] t q m e = elim m [ ]
free_not n (r ∷ l) t q m e =
    by_test (λ (b : Bool). b ≡ true → ⊥) (λ f z. absurd (false≢true z))
    (λ f z. mem-by m (λ (p : q ≡ r). eqb-false r.num n f (ap (λ (x : Sealed). x.num) (sym p) ∙ e)) (λ o. free_not n l z q o e)) t

one_of : (l : List Sealed) → distinct l ≡ true → (q r : Sealed) → Mem q l → Mem r l → q.num ≡ r.num → q ≡ r
one_of [] t q r m o e = elim m [ ]
one_of (x ∷ l) t q r m o e =
    mem-by m
    (λ (p : q ≡ x). mem-by o (λ (s : r ≡ x). p ∙ sym s)
    (λ o'. absurd (free_not x.num l (both_left _ _ t) r o' (sym e ∙ ap (λ (z : Sealed). z.num) p))))
    (λ m'. mem-by o (λ (s : r ≡ x). absurd (free_not x.num l (both_left _ _ t) q m' (e ∙ ap (λ (z : Sealed). z.num) s)))
    (λ o'. one_of l (both_right _ _ t) q r m' o' e))

-- a yes that brings what was sealed, and a no for a number that was not
pub yes_fair : (l : List Sealed) (r : Sealed) → Mem r l → distinct l ≡ true → (x : List ℕ) → x ≡ r.content ++ (r.type ∷ [])
    → (p : List ℕ) → (some x ≡ some p) ↔ ((q : Sealed) × Mem q l × Opens q r.num r.header r.cipher p)
yes_fair l r m t x plain p = (
  λ e. (r, m, record { number = refl; header = refl; cipher = refl; plaintext = sym (some_inj e) ∙ plain }),
  λ g. ap some
      (plain ∙ ap (λ (z : Sealed). z.content ++ (z.type ∷ [])) (sym (one_of l t g.0 r g.1 m g.2.number)) ∙ sym g.2.plaintext),
)

no_fair : (l : List Sealed) (n : ℕ) (head body : List ℕ) → free n l ≡ true
    → (p : List ℕ) → (none ≡ some p) ↔ ((q : Sealed) × Mem q l × Opens q n head body p)
no_fair l n head body t p = (λ e. some≢none (sym e), λ g. absurd (free_not n l t g.0 g.1 g.2.number))

-- whether n is in the list
abbrev among : ℕ → List ℕ → Bool
among n [] = false
among n (m ∷ l) = choose (eqb n m) true (among n l)

not_among : (n : ℕ) (l : List ℕ) → among n l ≡ false → Mem n l → ⊥
not_among n [] t m = elim m [ ]
not_among n (x ∷ l) t m =
    by_test (λ (b : Bool). b ≡ false → ⊥) (λ f z. absurd (false≢true (sym z)))
    (λ f z. mem-by m (λ (p : n ≡ x). eqb-false n x f p) (λ o. not_among n l z o)) t

-- a record is due, condition by condition, where these numbers are used
due-after : (used : List ℕ) (t : Trial) (e : ℕ) (r : Sealed) → t.used e ≡ used → Mem r (t.sealed e) → take (length r.wire) t.rest ≡ r.wire
    → t.encrypted ≡ true → t.count ≤ 15 → t.resolved ≡ some e → among r.num used ≡ false → aboveUsed used ≤ r.num + window_marks
    → r.num < reach_of used → Due t e r
due-after used t e r u sent same on few found new old near = record {
  sealed-then = sent;
  undamaged = same;
  encryption-on = on;
  among_16 = few;
  resolved = found;
  not_used = λ m. not_among r.num used new (subst (λ (l : List ℕ). Mem r.num l) u m);
  not_old = subst (λ (l : List ℕ). aboveUsed l ≤ r.num + window_marks) (sym u) old;
  in_reach = subst (λ (l : List ℕ). r.num < reach_of l) (sym u) near;
}

abbrev epochs_of : List Lost → List ℕ
epochs_of [] = []
epochs_of (l ∷ ls) = l.epoch ∷ epochs_of ls

-- the numbers told and owed, the last first
abbrev answers_of : List Told → List ℕ
answers_of [] = []
answers_of (t ∷ ts) = t.answer ∷ answers_of ts

abbrev owed_of : List Told → List ℕ
owed_of [] = []
owed_of (t ∷ ts) = t.owed ∷ owed_of ts

-- ---- out of order, doubled, forged

mixed : List Event
mixed =
    here· (key· 2 (replicate 12 0)) ∷ here· encrypt· ∷ far· 2 (sealed_as 2 0 10) ∷ far· 2 (sealed_as 2 1 11) ∷ far· 2 (sealed_as 2 2 12)
    ∷ arrives (sealed_as 2 2 12) 12 (arrives (sealed_as 2 0 10) 10 (doubled (sealed_as 2 2 12) (forged (arrives (sealed_as 2 1 11) 11 []))))

-- handed over in the order of arrival (the last first), each once
mixed-hands : (run (fresh_half 16) mixed).end.into.handed 2
    ≡ record { num = 1; type = 23; content = 11 ∷ [] } ∷ record { num = 0; type = 23; content = 10 ∷ [] } ∷ record { num = 2; type = 23; content = 12 ∷ [] } ∷ []
unfolding mixed sealed_as arrives doubled invented forged choose both either splice bit ask_sound ask_keyed opening_sound question_sound is_sound counted nonce_of inner_of unmasked rebuilt judged masked_at masked_by masking mask_step typed opened_at opened_by openings opened_step cancelled_ask cancelled fresh_of key_of leaving removed_by remove_of encrypt_of release_of begin_of header_length fragment_len partial_of parse_ciphertext is_type is_version is_plaintext plaintext_header parse_plaintext parsed unified_header locked_step sealed_step step_of opening_asked asked_again asking read_step fits last_fit find two resolve was_found is_keyed marked app_one apps windows_sound keys_sound is_full installed left_at left masked_header own below above nearest expected verdict marking upd key_owed keys resolves_to sealed_size plain_size record_size good_plain removed_from removed remove_owed begun begin_owed after_read after_mask after_open
mixed-hands = refl

mixed-honest : Honest one_mask (fresh_half 16) mixed
unfolding one_mask mixed sealed_as arrives doubled invented forged choose both either splice bit ask_sound ask_keyed opening_sound question_sound is_sound counted nonce_of inner_of unmasked rebuilt judged masked_at masked_by masking mask_step typed opened_at opened_by openings opened_step cancelled_ask cancelled fresh_of key_of leaving removed_by remove_of encrypt_of release_of begin_of header_length fragment_len partial_of parse_ciphertext is_type is_version is_plaintext plaintext_header parse_plaintext parsed unified_header locked_step sealed_step step_of opening_asked asked_again asking read_step fits last_fit find two resolve was_found is_keyed marked app_one apps windows_sound keys_sound is_full installed left_at left masked_header own below above nearest expected verdict marking upd key_owed keys resolves_to sealed_size plain_size record_size good_plain removed_from removed remove_owed begun begin_owed after_read after_mask after_open
mixed-honest = (tt, (tt, (shape 2 0 10 (omega arith), (shape 2 1 11 (omega arith), (shape 2 2 12 (omega arith), (tt, (tt, ((refl, λ s. refl), (tt, (λ right. yes_fair (sealed_as 2 2 12 ∷ sealed_as 2 1 11 ∷ sealed_as 2 0 10 ∷ []) (sealed_as 2 2 12) (here refl) refl _ refl, (tt, (tt, ((refl, λ s. refl), (tt, (λ right. yes_fair (sealed_as 2 2 12 ∷ sealed_as 2 1 11 ∷ sealed_as 2 0 10 ∷ []) (sealed_as 2 0 10) (there (there (here refl))) refl _ refl, (tt, (tt, ((refl, λ s. refl), (tt, (tt, ((refl, λ s. refl), (λ right. no_fair (sealed_as 2 2 12 ∷ sealed_as 2 1 11 ∷ sealed_as 2 0 10 ∷ []) 9 _ _ refl, (tt, (tt, ((refl, λ s. refl), (tt, (λ right. yes_fair (sealed_as 2 2 12 ∷ sealed_as 2 1 11 ∷ sealed_as 2 0 10 ∷ []) (sealed_as 2 1 11) (there (here refl)) refl _ refl, tt)))))))))))))))))))))))))))

-- ---- a doubled record in front of a new one

-- record 0, then one datagram of records 0 and 1
behind : List Event
behind =
    here· (key· 2 (replicate 12 0)) ∷ here· encrypt· ∷ far· 2 (sealed_as 2 0 10) ∷ far· 2 (sealed_as 2 1 11)
    ∷ arrives (sealed_as 2 0 10) 10
    (here· (begin· ((sealed_as 2 0 10).wire ++ (sealed_as 2 1 11).wire)) ∷ here· read· ∷ here· (mask· (1 ∷ 2 ∷ [])) ∷ here· read· ∷ here· (mask· (1 ∷ 2 ∷ []))
    ∷ here· (write· (11 ∷ 23 ∷ [])) ∷ here· (open· (Some 2)) ∷ [])

-- the mask reply that shows 0 as doubled leaves 1 as it arrived, and 1 is handed over
behind-hands : (run (fresh_half 16) behind).end.into.handed 2
    ≡ record { num = 1; type = 23; content = 11 ∷ [] } ∷ record { num = 0; type = 23; content = 10 ∷ [] } ∷ []
unfolding behind arrives sealed_as choose both either splice bit ask_sound ask_keyed opening_sound question_sound is_sound counted nonce_of inner_of unmasked rebuilt judged masked_at masked_by masking mask_step typed opened_at opened_by openings opened_step cancelled_ask cancelled fresh_of key_of leaving removed_by remove_of encrypt_of release_of begin_of header_length fragment_len partial_of parse_ciphertext is_type is_version is_plaintext plaintext_header parse_plaintext parsed unified_header locked_step sealed_step step_of opening_asked asked_again asking read_step fits last_fit find two resolve was_found is_keyed marked app_one apps windows_sound keys_sound is_full installed left_at left masked_header own below above nearest expected verdict marking upd key_owed keys resolves_to sealed_size plain_size record_size good_plain removed_from removed remove_owed begun begin_owed after_read after_mask after_open
behind-hands = refl

-- and 1 was due: the last record that the cut came to
abbrev last_of : List Tried → Tried → Tried
last_of [] z = z
last_of (t ∷ ts) z = t

behind-due : (z : Tried) → Due (last_of (run (fresh_half 16) behind).end.into.tried z).trial 2 (sealed_as 2 1 11)
unfolding behind arrives sealed_as choose both either splice bit ask_sound ask_keyed opening_sound question_sound is_sound counted nonce_of inner_of unmasked rebuilt judged masked_at masked_by masking mask_step typed opened_at opened_by openings opened_step cancelled_ask cancelled fresh_of key_of leaving removed_by remove_of encrypt_of release_of begin_of header_length fragment_len partial_of parse_ciphertext is_type is_version is_plaintext plaintext_header parse_plaintext parsed unified_header locked_step sealed_step step_of opening_asked asked_again asking read_step fits last_fit find two resolve was_found is_keyed marked app_one apps windows_sound keys_sound is_full installed left_at left masked_header own below above nearest expected verdict marking upd key_owed keys resolves_to sealed_size plain_size record_size good_plain removed_from removed remove_owed begun begin_owed after_read after_mask after_open
behind-due z = due-after (0 ∷ []) _ 2 (sealed_as 2 1 11) refl (here refl) refl refl (omega arith) refl refl (omega arith) (omega arith)

behind-honest : Honest one_mask (fresh_half 16) behind
unfolding one_mask behind arrives sealed_as choose both either splice bit ask_sound ask_keyed opening_sound question_sound is_sound counted nonce_of inner_of unmasked rebuilt judged masked_at masked_by masking mask_step typed opened_at opened_by openings opened_step cancelled_ask cancelled fresh_of key_of leaving removed_by remove_of encrypt_of release_of begin_of header_length fragment_len partial_of parse_ciphertext is_type is_version is_plaintext plaintext_header parse_plaintext parsed unified_header locked_step sealed_step step_of opening_asked asked_again asking read_step fits last_fit find two resolve was_found is_keyed marked app_one apps windows_sound keys_sound is_full installed left_at left masked_header own below above nearest expected verdict marking upd key_owed keys resolves_to sealed_size plain_size record_size good_plain removed_from removed remove_owed begun begin_owed after_read after_mask after_open
behind-honest = (tt, (tt, (shape 2 0 10 (omega arith), (shape 2 1 11 (omega arith), (tt, (tt, ((refl, λ s. refl), (tt, (λ right. yes_fair (sealed_as 2 1 11 ∷ sealed_as 2 0 10 ∷ []) (sealed_as 2 0 10) (there (here refl)) refl _ refl, (tt, (tt, ((refl, λ s. refl), (tt, ((refl, λ s. refl), (tt, (λ right. yes_fair (sealed_as 2 1 11 ∷ sealed_as 2 0 10 ∷ []) (sealed_as 2 1 11) (here refl) refl _ refl, tt))))))))))))))))

-- ---- a removal under a question

-- a datagram of two records with bits 3: the first is asked under epoch 7; with 7 removed the cut goes on, and the second is read under 3
removal : List Event
removal =
    here· (key· 3 (replicate 12 0)) ∷ here· (key· 7 (replicate 12 0)) ∷ here· encrypt· ∷ far· 7 (sealed_as 7 0 20) ∷ far· 3 (sealed_as 3 0 30)
    ∷ here· (begin· ((sealed_as 7 0 20).wire ++ (sealed_as 3 0 30).wire)) ∷ here· read· ∷ here· (remove· 7) ∷ here· read· ∷ here· (mask· (1 ∷ 2 ∷ []))
    ∷ here· (write· (30 ∷ 23 ∷ [])) ∷ here· (open· (Some 2)) ∷ []

removal-hands : ((run (fresh_half 16) removal).end.into.handed 7 ≡ [])
    × ((run (fresh_half 16) removal).end.into.handed 3 ≡ record { num = 0; type = 23; content = 30 ∷ [] } ∷ [])
    × (epochs_of (run (fresh_half 16) removal).end.into.lost ≡ 7 ∷ [])
    × (answers_of (run (fresh_half 16) removal).end.told ≡ 6 ∷ 0 ∷ 0 ∷ 0 ∷ 0 ∷ [])
    × (owed_of (run (fresh_half 16) removal).end.told ≡ 6 ∷ 0 ∷ 0 ∷ 0 ∷ 0 ∷ [])
unfolding removal sealed_as choose both either splice bit ask_sound ask_keyed opening_sound question_sound is_sound counted nonce_of inner_of unmasked rebuilt judged masked_at masked_by masking mask_step typed opened_at opened_by openings opened_step cancelled_ask cancelled fresh_of key_of leaving removed_by remove_of encrypt_of release_of begin_of header_length fragment_len partial_of parse_ciphertext is_type is_version is_plaintext plaintext_header parse_plaintext parsed unified_header locked_step sealed_step step_of opening_asked asked_again asking read_step fits last_fit find two resolve was_found is_keyed marked app_one apps windows_sound keys_sound is_full installed left_at left masked_header own below above nearest expected verdict marking upd key_owed keys resolves_to sealed_size plain_size record_size good_plain removed_from removed remove_owed begun begin_owed after_read after_mask after_open
removal-hands = (refl, refl, refl, refl, refl)

removal-honest : Honest one_mask (fresh_half 16) removal
unfolding one_mask removal sealed_as choose both either splice bit ask_sound ask_keyed opening_sound question_sound is_sound counted nonce_of inner_of unmasked rebuilt judged masked_at masked_by masking mask_step typed opened_at opened_by openings opened_step cancelled_ask cancelled fresh_of key_of leaving removed_by remove_of encrypt_of release_of begin_of header_length fragment_len partial_of parse_ciphertext is_type is_version is_plaintext plaintext_header parse_plaintext parsed unified_header locked_step sealed_step step_of opening_asked asked_again asking read_step fits last_fit find two resolve was_found is_keyed marked app_one apps windows_sound keys_sound is_full installed left_at left masked_header own below above nearest expected verdict marking upd key_owed keys resolves_to sealed_size plain_size record_size good_plain removed_from removed remove_owed begun begin_owed after_read after_mask after_open
removal-honest = (tt, (tt, (tt, (shape 7 0 20 (omega arith), (shape 3 0 30 (omega arith), (tt, (tt, (tt, (tt, ((refl, λ s. refl), (tt, (λ right. yes_fair (sealed_as 3 0 30 ∷ []) (sealed_as 3 0 30) (here refl) refl _ refl, tt))))))))))))

-- ---- a sixteenth and a seventeenth reading

-- fifteen empty plaintext ACKs and two sealed records in one datagram
abbrev plains : ℕ → List ℕ
plains zero = []
plains (suc n) = plaintext_header 26 0 0 ++ plains n

abbrev reads : ℕ → List Event → List Event
reads zero rest = rest
reads (suc n) rest = here· read· ∷ reads n rest

seventeen : List Event
seventeen =
    here· (key· 2 (replicate 12 0)) ∷ here· encrypt· ∷ far· 2 (sealed_as 2 0 10) ∷ far· 2 (sealed_as 2 1 11)
    ∷ here· (begin· (plains 15 ++ ((sealed_as 2 0 10).wire ++ (sealed_as 2 1 11).wire)))
    ∷ reads 15
    (here· read· ∷ here· (mask· (1 ∷ 2 ∷ [])) ∷ here· (write· (10 ∷ 23 ∷ [])) ∷ here· (open· (Some 2)) ∷ here· read· ∷ here· (mask· (1 ∷ 2 ∷ []))
    ∷ here· (write· (11 ∷ 23 ∷ [])) ∷ here· (open· (Some 2)) ∷ [])

-- the sixteenth is handed over; the seventeenth ends the datagram, its number used
seventeen-hands : ((run (fresh_half 16) seventeen).end.into.handed 2 ≡ record { num = 0; type = 23; content = 10 ∷ [] } ∷ [])
    × ((run (fresh_half 16) seventeen).end.into.used 2 ≡ 1 ∷ 0 ∷ [])
unfolding seventeen sealed_as choose both either splice bit ask_sound ask_keyed opening_sound question_sound is_sound counted nonce_of inner_of unmasked rebuilt judged masked_at masked_by masking mask_step typed opened_at opened_by openings opened_step cancelled_ask cancelled fresh_of key_of leaving removed_by remove_of encrypt_of release_of begin_of header_length fragment_len partial_of parse_ciphertext is_type is_version is_plaintext plaintext_header parse_plaintext parsed unified_header locked_step sealed_step step_of opening_asked asked_again asking read_step fits last_fit find two resolve was_found is_keyed marked app_one apps windows_sound keys_sound is_full installed left_at left masked_header own below above nearest expected verdict marking upd key_owed keys resolves_to sealed_size plain_size record_size good_plain removed_from removed remove_owed begun begin_owed after_read after_mask after_open
seventeen-hands = (refl, refl)

seventeen-honest : Honest one_mask (fresh_half 16) seventeen
unfolding one_mask seventeen sealed_as choose both either splice bit ask_sound ask_keyed opening_sound question_sound is_sound counted nonce_of inner_of unmasked rebuilt judged masked_at masked_by masking mask_step typed opened_at opened_by openings opened_step cancelled_ask cancelled fresh_of key_of leaving removed_by remove_of encrypt_of release_of begin_of header_length fragment_len partial_of parse_ciphertext is_type is_version is_plaintext plaintext_header parse_plaintext parsed unified_header locked_step sealed_step step_of opening_asked asked_again asking read_step fits last_fit find two resolve was_found is_keyed marked app_one apps windows_sound keys_sound is_full installed left_at left masked_header own below above nearest expected verdict marking upd key_owed keys resolves_to sealed_size plain_size record_size good_plain removed_from removed remove_owed begun begin_owed after_read after_mask after_open
seventeen-honest = (tt, (tt, (shape 2 0 10 (omega arith), (shape 2 1 11 (omega arith), (tt, (tt, (tt, (tt, (tt, (tt, (tt, (tt, (tt, (tt, (tt, (tt, (tt, (tt, (tt, (tt, (tt, ((refl, λ s. refl), (tt, (λ right. yes_fair (sealed_as 2 1 11 ∷ sealed_as 2 0 10 ∷ []) (sealed_as 2 0 10) (there (here refl)) refl _ refl, (tt, ((refl, λ s. refl), (tt, (λ right. yes_fair (sealed_as 2 1 11 ∷ sealed_as 2 0 10 ∷ []) (sealed_as 2 1 11) (here refl) refl _ refl, tt))))))))))))))))))))))))))))

-- ---- a plaintext record and an unopened one

-- a handshake record with number 5, and a sealed record behind it, peer encryption off
plainly : List Event
plainly = here· (begin· (plaintext_header 22 5 3 ++ (1 ∷ 2 ∷ 3 ∷ (sealed_as 2 0 10).wire))) ∷ here· read· ∷ here· read· ∷ []

-- both are due
abbrev earlier : List Tried → List Tried
earlier [] = []
earlier (t ∷ ts) = ts

plainly-due : (z : Tried) → PlainDue (last_of (earlier (run (fresh_half 16) plainly).end.into.tried) z).trial
    × UnopenedDue (last_of (run (fresh_half 16) plainly).end.into.tried z).trial
unfolding plainly sealed_as choose both either splice bit ask_sound ask_keyed opening_sound question_sound is_sound counted nonce_of inner_of unmasked rebuilt judged masked_at masked_by masking mask_step typed opened_at opened_by openings opened_step cancelled_ask cancelled fresh_of key_of leaving removed_by remove_of encrypt_of release_of begin_of header_length fragment_len partial_of parse_ciphertext is_type is_version is_plaintext plaintext_header parse_plaintext parsed unified_header locked_step sealed_step step_of opening_asked asked_again asking read_step fits last_fit find two resolve was_found is_keyed marked app_one apps windows_sound keys_sound is_full installed left_at left masked_header own below above nearest expected verdict marking upd key_owed keys resolves_to sealed_size plain_size record_size good_plain removed_from removed remove_owed begun begin_owed after_read after_mask after_open
plainly-due z = (
  record { in_order = refl; whole = omega arith; among_16 = omega arith },
  record {
    sealed_form = refl;
    goes_on = refl;
    header = omega arith;
    whole = omega arith;
    bits = omega arith;
    encryption_off = refl;
    among_16 = omega arith;
  },
)

-- and read as what they are
abbrev reads_of : List Tried → List (Reading × List ℕ)
reads_of [] = []
reads_of (t ∷ ts) = (t.reading, t.shown) ∷ reads_of ts

plainly-reads : reads_of (run (fresh_half 16) plainly).end.into.tried
    ≡ (says.Unopened 2 258 21 18, (sealed_as 2 0 10).cipher) ∷ (says.Plaintext 22 5 13 3, 1 ∷ 2 ∷ 3 ∷ []) ∷ []
unfolding plainly sealed_as choose both either splice bit ask_sound ask_keyed opening_sound question_sound is_sound counted nonce_of inner_of unmasked rebuilt judged masked_at masked_by masking mask_step typed opened_at opened_by openings opened_step cancelled_ask cancelled fresh_of key_of leaving removed_by remove_of encrypt_of release_of begin_of header_length fragment_len partial_of parse_ciphertext is_type is_version is_plaintext plaintext_header parse_plaintext parsed unified_header locked_step sealed_step step_of opening_asked asked_again asking read_step fits last_fit find two resolve was_found is_keyed marked app_one apps windows_sound keys_sound is_full installed left_at left masked_header own below above nearest expected verdict marking upd key_owed keys resolves_to sealed_size plain_size record_size good_plain removed_from removed remove_owed begun begin_owed after_read after_mask after_open
plainly-reads = refl

plainly-honest : Honest one_mask (fresh_half 16) plainly
unfolding one_mask plainly sealed_as choose both either splice bit ask_sound ask_keyed opening_sound question_sound is_sound counted nonce_of inner_of unmasked rebuilt judged masked_at masked_by masking mask_step typed opened_at opened_by openings opened_step cancelled_ask cancelled fresh_of key_of leaving removed_by remove_of encrypt_of release_of begin_of header_length fragment_len partial_of parse_ciphertext is_type is_version is_plaintext plaintext_header parse_plaintext parsed unified_header locked_step sealed_step step_of opening_asked asked_again asking read_step fits last_fit find two resolve was_found is_keyed marked app_one apps windows_sound keys_sound is_full installed left_at left masked_header own below above nearest expected verdict marking upd key_owed keys resolves_to sealed_size plain_size record_size good_plain removed_from removed remove_owed begun begin_owed after_read after_mask after_open
plainly-honest = (tt, (tt, (tt, tt)))

-- ---- an alert that is told

-- behind an alert with number 5 lies a handshake record: the rest is left. Then a sealed record, with nothing left of it while its questions wait
alerted : List Event
alerted =
    here· (begin· (plaintext_header 21 5 2 ++ (2 ∷ 40 ∷ plaintext_header 22 6 0))) ∷ here· read· ∷ here· finish· ∷ here· read·
    ∷ here· (key· 2 (replicate 12 0)) ∷ here· encrypt· ∷ far· 2 (sealed_as 2 0 10) ∷ here· (begin· (sealed_as 2 0 10).wire) ∷ here· read· ∷ here· finish·
    ∷ here· (mask· (1 ∷ 2 ∷ [])) ∷ here· finish· ∷ here· (write· (10 ∷ 23 ∷ [])) ∷ here· (open· (Some 2)) ∷ []

-- the read behind the alert finds the end; the sealed record is handed over
alerted-reads : reads_of (run (fresh_half 16) alerted).end.into.tried
    ≡ (says.Opened 2 0 23 5 1, 10 ∷ []) ∷ (says.End, []) ∷ (says.Plaintext 21 5 13 2, 2 ∷ 40 ∷ []) ∷ []
unfolding alerted sealed_as choose both either splice bit ask_sound ask_keyed opening_sound question_sound is_sound counted nonce_of inner_of unmasked rebuilt judged masked_at masked_by masking mask_step typed opened_at opened_by openings opened_step cancelled_ask cancelled fresh_of key_of leaving removed_by remove_of encrypt_of release_of begin_of header_length fragment_len partial_of parse_ciphertext is_type is_version is_plaintext plaintext_header parse_plaintext parsed unified_header locked_step sealed_step step_of opening_asked asked_again asking read_step fits last_fit find two resolve was_found is_keyed marked app_one apps windows_sound keys_sound is_full installed left_at left masked_header own below above nearest expected verdict marking upd key_owed keys resolves_to sealed_size plain_size record_size good_plain removed_from removed remove_owed begun begin_owed after_read after_mask after_open
alerted-reads = refl

alerted-honest : Honest one_mask (fresh_half 16) alerted
unfolding one_mask alerted sealed_as choose both either splice bit ask_sound ask_keyed opening_sound question_sound is_sound counted nonce_of inner_of unmasked rebuilt judged masked_at masked_by masking mask_step typed opened_at opened_by openings opened_step cancelled_ask cancelled fresh_of key_of leaving removed_by remove_of encrypt_of release_of begin_of header_length fragment_len partial_of parse_ciphertext is_type is_version is_plaintext plaintext_header parse_plaintext parsed unified_header locked_step sealed_step step_of opening_asked asked_again asking read_step fits last_fit find two resolve was_found is_keyed marked app_one apps windows_sound keys_sound is_full installed left_at left masked_header own below above nearest expected verdict marking upd key_owed keys resolves_to sealed_size plain_size record_size good_plain removed_from removed remove_owed begun begin_owed after_read after_mask after_open
alerted-honest = (tt, (tt, (tt, (tt, (tt, (tt, (shape 2 0 10 (omega arith), (tt, (tt, (tt, ((refl, λ s. refl), (tt, (tt, (λ right. yes_fair (sealed_as 2 0 10 ∷ []) (sealed_as 2 0 10) (here refl) refl _ refl, tt))))))))))))))

-- ---- keys refused

-- 2 is keyed once; 3 to 6, and 7 is a fifth; 1 never; with 3 removed, and only then, 7 is keyed
refusals : List Event
refusals =
    here· (key· 2 []) ∷ here· (key· 2 []) ∷ here· (key· 3 []) ∷ here· (key· 4 []) ∷ here· (key· 5 []) ∷ here· (key· 6 []) ∷ here· (key· 7 []) ∷ here· (key· 1 [])
    ∷ here· (remove· 3) ∷ here· (remove· 3) ∷ here· (key· 7 []) ∷ []

refusals-told : (answers_of (run (fresh_half 16) refusals).end.told ≡ 0 ∷ 13 ∷ 0 ∷ 13 ∷ 23 ∷ 0 ∷ 0 ∷ 0 ∷ 0 ∷ 13 ∷ 0 ∷ [])
    × (owed_of (run (fresh_half 16) refusals).end.told ≡ 0 ∷ 13 ∷ 0 ∷ 13 ∷ 23 ∷ 0 ∷ 0 ∷ 0 ∷ 0 ∷ 13 ∷ 0 ∷ [])
unfolding refusals sealed_as choose both either splice bit ask_sound ask_keyed opening_sound question_sound is_sound counted nonce_of inner_of unmasked rebuilt judged masked_at masked_by masking mask_step typed opened_at opened_by openings opened_step cancelled_ask cancelled fresh_of key_of leaving removed_by remove_of encrypt_of release_of begin_of header_length fragment_len partial_of parse_ciphertext is_type is_version is_plaintext plaintext_header parse_plaintext parsed unified_header locked_step sealed_step step_of opening_asked asked_again asking read_step fits last_fit find two resolve was_found is_keyed marked app_one apps windows_sound keys_sound is_full installed left_at left masked_header own below above nearest expected verdict marking upd key_owed keys resolves_to sealed_size plain_size record_size good_plain removed_from removed remove_owed begun begin_owed after_read after_mask after_open
refusals-told = (refl, refl)

refusals-honest : Honest one_mask (fresh_half 16) refusals
unfolding one_mask refusals sealed_as choose both either splice bit ask_sound ask_keyed opening_sound question_sound is_sound counted nonce_of inner_of unmasked rebuilt judged masked_at masked_by masking mask_step typed opened_at opened_by openings opened_step cancelled_ask cancelled fresh_of key_of leaving removed_by remove_of encrypt_of release_of begin_of header_length fragment_len partial_of parse_ciphertext is_type is_version is_plaintext plaintext_header parse_plaintext parsed unified_header locked_step sealed_step step_of opening_asked asked_again asking read_step fits last_fit find two resolve was_found is_keyed marked app_one apps windows_sound keys_sound is_full installed left_at left masked_header own below above nearest expected verdict marking upd key_owed keys resolves_to sealed_size plain_size record_size good_plain removed_from removed remove_owed begun begin_owed after_read after_mask after_open
refusals-honest = (tt, (tt, (tt, (tt, (tt, (tt, (tt, (tt, (tt, (tt, (tt, tt)))))))))))

-- ---- the edges of the reach

-- after 100: 37, 63 below, is read, and 36, 64 below, is dropped; then 32,868 is read; 65,637, 32,768 above 32,869, is not found
-- from its bits, and 65,636 is read
edges : List Event
edges =
    here· (key· 2 (replicate 12 0)) ∷ here· encrypt· ∷ far· 2 (sealed_as 2 100 1) ∷ far· 2 (sealed_as 2 37 2) ∷ far· 2 (sealed_as 2 36 3)
    ∷ far· 2 (sealed_as 2 32868 4) ∷ far· 2 (sealed_as 2 65637 5) ∷ far· 2 (sealed_as 2 65636 6)
    ∷ arrives (sealed_as 2 100 1) 1
    (arrives (sealed_as 2 37 2) 2 (doubled (sealed_as 2 36 3) (arrives (sealed_as 2 32868 4) 4 (doubled (sealed_as 2 65637 5) (arrives (sealed_as 2 65636 6) 6 [])))))

edges-hands : (run (fresh_half 16) edges).end.into.handed 2
    ≡ record { num = 65636; type = 23; content = 6 ∷ [] } ∷ record { num = 32868; type = 23; content = 4 ∷ [] }
    ∷ record { num = 37; type = 23; content = 2 ∷ [] } ∷ record { num = 100; type = 23; content = 1 ∷ [] } ∷ []
unfolding edges sealed_as arrives doubled choose both either splice bit ask_sound ask_keyed opening_sound question_sound is_sound counted nonce_of inner_of unmasked rebuilt judged masked_at masked_by masking mask_step typed opened_at opened_by openings opened_step cancelled_ask cancelled fresh_of key_of leaving removed_by remove_of encrypt_of release_of begin_of header_length fragment_len partial_of parse_ciphertext is_type is_version is_plaintext plaintext_header parse_plaintext parsed unified_header locked_step sealed_step step_of opening_asked asked_again asking read_step fits last_fit find two resolve was_found is_keyed marked app_one apps windows_sound keys_sound is_full installed left_at left masked_header own below above nearest expected verdict marking upd key_owed keys resolves_to sealed_size plain_size record_size good_plain removed_from removed remove_owed begun begin_owed after_read after_mask after_open
edges-hands = refl

-- 65,636 and 37 were due; 65,637 would be, were it in reach, and 36, were it not too old
edges-due : (z : Tried) → Due (last_of (run (fresh_half 16) edges).end.into.tried z).trial 2 (sealed_as 2 65636 6)
    × (65637 < reach_of (32868 ∷ 37 ∷ 100 ∷ [])
    → Due (last_of (earlier (run (fresh_half 16) edges).end.into.tried) z).trial 2 (sealed_as 2 65637 5))
    × (aboveUsed (37 ∷ 100 ∷ []) ≤ 36 + window_marks
    → Due (last_of (earlier (earlier (earlier (run (fresh_half 16) edges).end.into.tried))) z).trial 2 (sealed_as 2 36 3))
    × Due (last_of (earlier (earlier (earlier (earlier (run (fresh_half 16) edges).end.into.tried)))) z).trial 2 (sealed_as 2 37 2)
unfolding edges sealed_as arrives doubled choose both either splice bit ask_sound ask_keyed opening_sound question_sound is_sound counted nonce_of inner_of unmasked rebuilt judged masked_at masked_by masking mask_step typed opened_at opened_by openings opened_step cancelled_ask cancelled fresh_of key_of leaving removed_by remove_of encrypt_of release_of begin_of header_length fragment_len partial_of parse_ciphertext is_type is_version is_plaintext plaintext_header parse_plaintext parsed unified_header locked_step sealed_step step_of opening_asked asked_again asking read_step fits last_fit find two resolve was_found is_keyed marked app_one apps windows_sound keys_sound is_full installed left_at left masked_header own below above nearest expected verdict marking upd key_owed keys resolves_to sealed_size plain_size record_size good_plain removed_from removed remove_owed begun begin_owed after_read after_mask after_open
edges-due z = (
  due-after (32868 ∷ 37 ∷ 100 ∷ []) _ 2 (sealed_as 2 65636 6) refl (here refl) refl refl (omega arith) refl refl (omega arith) (omega arith),
  λ near. due-after (32868 ∷ 37 ∷ 100 ∷ []) _ 2 (sealed_as 2 65637 5) refl (there (here refl)) refl refl (omega arith) refl refl (omega arith) near,
  λ old. due-after (37 ∷ 100 ∷ []) _ 2 (sealed_as 2 36 3) refl (there (there (there (here refl)))) refl refl (omega arith) refl refl old (omega arith),
  due-after (100 ∷ []) _ 2 (sealed_as 2 37 2) refl (there (there (there (there (here refl))))) refl refl (omega arith) refl refl (omega arith) (omega arith),
)

edges-honest : Honest one_mask (fresh_half 16) edges
unfolding one_mask edges sealed_as arrives doubled choose both either splice bit ask_sound ask_keyed opening_sound question_sound is_sound counted nonce_of inner_of unmasked rebuilt judged masked_at masked_by masking mask_step typed opened_at opened_by openings opened_step cancelled_ask cancelled fresh_of key_of leaving removed_by remove_of encrypt_of release_of begin_of header_length fragment_len partial_of parse_ciphertext is_type is_version is_plaintext plaintext_header parse_plaintext parsed unified_header locked_step sealed_step step_of opening_asked asked_again asking read_step fits last_fit find two resolve was_found is_keyed marked app_one apps windows_sound keys_sound is_full installed left_at left masked_header own below above nearest expected verdict marking upd key_owed keys resolves_to sealed_size plain_size record_size good_plain removed_from removed remove_owed begun begin_owed after_read after_mask after_open
edges-honest = (tt, (tt, (shape 2 100 1 (omega arith), (shape 2 37 2 (omega arith), (shape 2 36 3 (omega arith), (shape 2 32868 4 (omega arith), (shape 2 65637 5 (omega arith), (shape 2 65636 6 (omega arith), (tt, (tt, ((refl, λ s. refl), (tt, (λ right. yes_fair (sealed_as 2 65636 6 ∷ sealed_as 2 65637 5 ∷ sealed_as 2 32868 4 ∷ sealed_as 2 36 3 ∷ sealed_as 2 37 2 ∷ sealed_as 2 100 1 ∷ []) (sealed_as 2 100 1) (there (there (there (there (there (here refl)))))) refl _ refl, (tt, (tt, ((refl, λ s. refl), (tt, (λ right. yes_fair (sealed_as 2 65636 6 ∷ sealed_as 2 65637 5 ∷ sealed_as 2 32868 4 ∷ sealed_as 2 36 3 ∷ sealed_as 2 37 2 ∷ sealed_as 2 100 1 ∷ []) (sealed_as 2 37 2) (there (there (there (there (here refl))))) refl _ refl, (tt, (tt, ((refl, λ s. refl), (tt, (tt, ((refl, λ s. refl), (tt, (λ right. yes_fair (sealed_as 2 65636 6 ∷ sealed_as 2 65637 5 ∷ sealed_as 2 32868 4 ∷ sealed_as 2 36 3 ∷ sealed_as 2 37 2 ∷ sealed_as 2 100 1 ∷ []) (sealed_as 2 32868 4) (there (there (here refl))) refl _ refl, (tt, (tt, ((refl, λ s. refl), (tt, (tt, ((refl, λ s. refl), (tt, (λ right. yes_fair (sealed_as 2 65636 6 ∷ sealed_as 2 65637 5 ∷ sealed_as 2 32868 4 ∷ sealed_as 2 36 3 ∷ sealed_as 2 37 2 ∷ sealed_as 2 100 1 ∷ []) (sealed_as 2 65636 6) (here refl) refl _ refl, tt))))))))))))))))))))))))))))))))))

-- ---- late and doubled

-- after 5 and 68: 5 again, 63 below, and an invented record under 5; 4, 64 below and never used; then 69, and 5 once more, now 64 below; and 6, 63
-- below and not used
late : List Event
late =
    here· (key· 2 (replicate 12 0)) ∷ here· encrypt· ∷ far· 2 (sealed_as 2 4 4) ∷ far· 2 (sealed_as 2 5 5) ∷ far· 2 (sealed_as 2 6 6) ∷ far· 2 (sealed_as 2 68 7)
    ∷ far· 2 (sealed_as 2 69 8)
    ∷ arrives (sealed_as 2 5 5) 5
    (arrives (sealed_as 2 68 7) 7
    (doubled (sealed_as 2 5 5)
    (invented 5 (doubled (sealed_as 2 4 4) (arrives (sealed_as 2 69 8) 8 (doubled (sealed_as 2 5 5) (arrives (sealed_as 2 6 6) 6 [])))))))

abbrev said_of : List Tried → List Reading
said_of [] = []
said_of (d ∷ ds) = d.reading ∷ said_of ds

-- the last first: what was used and is not too old is seen, what is 64 below is too old, used or not
late-said : said_of (run (fresh_half 16) late).end.into.tried
    ≡ says.Opened 2 6 23 5 1 ∷ says.Dropped reason.TooOld ∷ says.Opened 2 69 23 5 1 ∷ says.Dropped reason.TooOld ∷ says.Dropped reason.Seen
    ∷ says.Dropped reason.Seen ∷ says.Opened 2 68 23 5 1 ∷ says.Opened 2 5 23 5 1 ∷ []
unfolding late sealed_as arrives doubled invented choose both either splice bit ask_sound ask_keyed opening_sound question_sound is_sound counted nonce_of inner_of unmasked rebuilt judged masked_at masked_by masking mask_step typed opened_at opened_by openings opened_step cancelled_ask cancelled fresh_of key_of leaving removed_by remove_of encrypt_of release_of begin_of header_length fragment_len partial_of parse_ciphertext is_type is_version is_plaintext plaintext_header parse_plaintext parsed unified_header locked_step sealed_step step_of opening_asked asked_again asking read_step fits last_fit find two resolve was_found is_keyed marked app_one apps windows_sound keys_sound is_full installed left_at left masked_header own below above nearest expected verdict marking upd key_owed keys resolves_to sealed_size plain_size record_size good_plain removed_from removed remove_owed begun begin_owed after_read after_mask after_open
late-said = refl

-- a record's number is brought back, condition by condition, where these numbers are used
known-after : (used : List ℕ) (t : Trial) (e : ℕ) (r : Sealed) → t.used e ≡ used → Mem r (t.sealed e) → take (length r.wire) t.rest ≡ r.wire
    → t.encrypted ≡ true → t.resolved ≡ some e → r.num < reach_of used → aboveUsed used < r.num + 32768 → Known t e r
known-after used t e r u sent same on found near enough = record {
  sealed-then = sent;
  undamaged = same;
  encryption-on = on;
  resolved = found;
  in_reach = subst (λ (l : List ℕ). r.num < reach_of l) (sym u) near;
  near_enough = subst (λ (l : List ℕ). aboveUsed l < r.num + 32768) (sym u) enough;
}

-- so it was of 5 once more, of 4, and of 5 when it came the second time
late-known : (z : Tried) → Known (last_of (earlier (run (fresh_half 16) late).end.into.tried) z).trial 2 (sealed_as 2 5 5)
    × Known (last_of (earlier (earlier (earlier (run (fresh_half 16) late).end.into.tried))) z).trial 2 (sealed_as 2 4 4)
    × Known (last_of (earlier (earlier (earlier (earlier (earlier (run (fresh_half 16) late).end.into.tried))))) z).trial 2 (sealed_as 2 5 5)
unfolding late sealed_as arrives doubled invented choose both either splice bit ask_sound ask_keyed opening_sound question_sound is_sound counted nonce_of inner_of unmasked rebuilt judged masked_at masked_by masking mask_step typed opened_at opened_by openings opened_step cancelled_ask cancelled fresh_of key_of leaving removed_by remove_of encrypt_of release_of begin_of header_length fragment_len partial_of parse_ciphertext is_type is_version is_plaintext plaintext_header parse_plaintext parsed unified_header locked_step sealed_step step_of opening_asked asked_again asking read_step fits last_fit find two resolve was_found is_keyed marked app_one apps windows_sound keys_sound is_full installed left_at left masked_header own below above nearest expected verdict marking upd key_owed keys resolves_to sealed_size plain_size record_size good_plain removed_from removed remove_owed begun begin_owed after_read after_mask after_open
late-known z = (
  known-after (69 ∷ 68 ∷ 5 ∷ []) _ 2 (sealed_as 2 5 5) refl (there (there (there (here refl)))) refl refl refl (omega arith) (omega arith),
  known-after (68 ∷ 5 ∷ []) _ 2 (sealed_as 2 4 4) refl (there (there (there (there (here refl))))) refl refl refl (omega arith) (omega arith),
  known-after (68 ∷ 5 ∷ []) _ 2 (sealed_as 2 5 5) refl (there (there (there (here refl)))) refl refl refl (omega arith) (omega arith),
)

late-honest : Honest one_mask (fresh_half 16) late
unfolding one_mask late sealed_as arrives doubled invented choose both either splice bit ask_sound ask_keyed opening_sound question_sound is_sound counted nonce_of inner_of unmasked rebuilt judged masked_at masked_by masking mask_step typed opened_at opened_by openings opened_step cancelled_ask cancelled fresh_of key_of leaving removed_by remove_of encrypt_of release_of begin_of header_length fragment_len partial_of parse_ciphertext is_type is_version is_plaintext plaintext_header parse_plaintext parsed unified_header locked_step sealed_step step_of opening_asked asked_again asking read_step fits last_fit find two resolve was_found is_keyed marked app_one apps windows_sound keys_sound is_full installed left_at left masked_header own below above nearest expected verdict marking upd key_owed keys resolves_to sealed_size plain_size record_size good_plain removed_from removed remove_owed begun begin_owed after_read after_mask after_open
late-honest = (tt, (tt, (shape 2 4 4 (omega arith), (shape 2 5 5 (omega arith), (shape 2 6 6 (omega arith), (shape 2 68 7 (omega arith), (shape 2 69 8 (omega arith), (tt, (tt, ((refl, λ s. refl), (tt, (λ right. yes_fair (sealed_as 2 69 8 ∷ sealed_as 2 68 7 ∷ sealed_as 2 6 6 ∷ sealed_as 2 5 5 ∷ sealed_as 2 4 4 ∷ []) (sealed_as 2 5 5) (there (there (there (here refl)))) refl _ refl, (tt, (tt, ((refl, λ s. refl), (tt, (λ right. yes_fair (sealed_as 2 69 8 ∷ sealed_as 2 68 7 ∷ sealed_as 2 6 6 ∷ sealed_as 2 5 5 ∷ sealed_as 2 4 4 ∷ []) (sealed_as 2 68 7) (there (here refl)) refl _ refl, (tt, (tt, ((refl, λ s. refl), (tt, (tt, ((refl, λ s. refl), (tt, (tt, ((refl, λ s. refl), (tt, (tt, ((refl, λ s. refl), (tt, (λ right. yes_fair (sealed_as 2 69 8 ∷ sealed_as 2 68 7 ∷ sealed_as 2 6 6 ∷ sealed_as 2 5 5 ∷ sealed_as 2 4 4 ∷ []) (sealed_as 2 69 8) (here refl) refl _ refl, (tt, (tt, ((refl, λ s. refl), (tt, (tt, ((refl, λ s. refl), (tt, (λ right. yes_fair (sealed_as 2 69 8 ∷ sealed_as 2 68 7 ∷ sealed_as 2 6 6 ∷ sealed_as 2 5 5 ∷ sealed_as 2 4 4 ∷ []) (sealed_as 2 6 6) (there (there (here refl))) refl _ refl, tt)))))))))))))))))))))))))))))))))))))))

-- ---- the first records of an epoch after a gap

-- a record that the cipher does not open under the number rebuilt from its bits
refused : Sealed → List Event → List Event
refused r rest = here· (begin· r.wire) ∷ here· read· ∷ here· (mask· (1 ∷ 2 ∷ [])) ∷ here· (open· None) ∷ rest

-- nothing used in any of three epochs: the first to arrive are 65,536, 40,000 and 65,535
gap : List Event
gap =
    here· (key· 2 (replicate 12 0)) ∷ here· (key· 3 (replicate 12 0)) ∷ here· (key· 4 (replicate 12 0)) ∷ here· encrypt· ∷ far· 2 (sealed_as 2 40000 1)
    ∷ far· 3 (sealed_as 3 65535 2) ∷ far· 4 (sealed_as 4 65536 3)
    ∷ refused (sealed_as 4 65536 3) (arrives (sealed_as 2 40000 1) 1 (arrives (sealed_as 3 65535 2) 2 []))

-- 40,000 and 65,535 are handed over; 65,536 ends in the bits of 0, and is not
gap-hands : ((run (fresh_half 16) gap).end.into.handed 2 ≡ record { num = 40000; type = 23; content = 1 ∷ [] } ∷ [])
    × ((run (fresh_half 16) gap).end.into.handed 3 ≡ record { num = 65535; type = 23; content = 2 ∷ [] } ∷ [])
    × ((run (fresh_half 16) gap).end.into.handed 4 ≡ [])
unfolding gap sealed_as arrives refused choose both either splice bit ask_sound ask_keyed opening_sound question_sound is_sound counted nonce_of inner_of unmasked rebuilt judged masked_at masked_by masking mask_step typed opened_at opened_by openings opened_step cancelled_ask cancelled fresh_of key_of leaving removed_by remove_of encrypt_of release_of begin_of header_length fragment_len partial_of parse_ciphertext is_type is_version is_plaintext plaintext_header parse_plaintext parsed unified_header locked_step sealed_step step_of opening_asked asked_again asking read_step fits last_fit find two resolve was_found is_keyed marked app_one apps windows_sound keys_sound is_full installed left_at left masked_header own below above nearest expected verdict marking upd key_owed keys resolves_to sealed_size plain_size record_size good_plain removed_from removed remove_owed begun begin_owed after_read after_mask after_open
gap-hands = (refl, refl, refl)

-- and so they were due; 65,536 would be, were it in reach
gap-due : (z : Tried) → Due (last_of (earlier (run (fresh_half 16) gap).end.into.tried) z).trial 2 (sealed_as 2 40000 1)
    × Due (last_of (run (fresh_half 16) gap).end.into.tried z).trial 3 (sealed_as 3 65535 2)
    × (65536 < reach_of [] → Due (last_of (earlier (earlier (run (fresh_half 16) gap).end.into.tried)) z).trial 4 (sealed_as 4 65536 3))
unfolding gap sealed_as arrives refused choose both either splice bit ask_sound ask_keyed opening_sound question_sound is_sound counted nonce_of inner_of unmasked rebuilt judged masked_at masked_by masking mask_step typed opened_at opened_by openings opened_step cancelled_ask cancelled fresh_of key_of leaving removed_by remove_of encrypt_of release_of begin_of header_length fragment_len partial_of parse_ciphertext is_type is_version is_plaintext plaintext_header parse_plaintext parsed unified_header locked_step sealed_step step_of opening_asked asked_again asking read_step fits last_fit find two resolve was_found is_keyed marked app_one apps windows_sound keys_sound is_full installed left_at left masked_header own below above nearest expected verdict marking upd key_owed keys resolves_to sealed_size plain_size record_size good_plain removed_from removed remove_owed begun begin_owed after_read after_mask after_open
gap-due z = (
  due-after [] _ 2 (sealed_as 2 40000 1) refl (here refl) refl refl (omega arith) refl refl (omega arith) (omega arith),
  due-after [] _ 3 (sealed_as 3 65535 2) refl (here refl) refl refl (omega arith) refl refl (omega arith) (omega arith),
  λ near. due-after [] _ 4 (sealed_as 4 65536 3) refl (here refl) refl refl (omega arith) refl refl (omega arith) near,
)

gap-honest : Honest one_mask (fresh_half 16) gap
unfolding one_mask gap sealed_as arrives refused choose both either splice bit ask_sound ask_keyed opening_sound question_sound is_sound counted nonce_of inner_of unmasked rebuilt judged masked_at masked_by masking mask_step typed opened_at opened_by openings opened_step cancelled_ask cancelled fresh_of key_of leaving removed_by remove_of encrypt_of release_of begin_of header_length fragment_len partial_of parse_ciphertext is_type is_version is_plaintext plaintext_header parse_plaintext parsed unified_header locked_step sealed_step step_of opening_asked asked_again asking read_step fits last_fit find two resolve was_found is_keyed marked app_one apps windows_sound keys_sound is_full installed left_at left masked_header own below above nearest expected verdict marking upd key_owed keys resolves_to sealed_size plain_size record_size good_plain removed_from removed remove_owed begun begin_owed after_read after_mask after_open
gap-honest = (tt, (tt, (tt, (tt, (shape 2 40000 1 (omega arith), (shape 3 65535 2 (omega arith), (shape 4 65536 3 (omega arith), (tt, (tt, ((refl, λ s. refl), (λ right. no_fair (sealed_as 4 65536 3 ∷ []) 0 _ _ refl, (tt, (tt, ((refl, λ s. refl), (tt, (λ right. yes_fair (sealed_as 2 40000 1 ∷ []) (sealed_as 2 40000 1) (here refl) refl _ refl, (tt, (tt, ((refl, λ s. refl), (tt, (λ right. yes_fair (sealed_as 3 65535 2 ∷ []) (sealed_as 3 65535 2) (here refl) refl _ refl, tt)))))))))))))))))))))
