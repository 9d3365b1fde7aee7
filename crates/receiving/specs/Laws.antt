-- Laws of the calls of the receive side: the ranges hold from a fresh state on, refused means unchanged, which calls move windows, what
-- removing and beginning cancel. Assumes nothing.
use Rattle.std.specs.Prelude.{ℕ, ◌-◌, ◌<◌, ◌≤◌, length, Bool, true, false, List, [], ◌∷◌, ◌⊎◌, ◌≡◌, refl, Some, None, Ok}
use Rattle.std.proofs.lemmas.Bool.{eqb-false, false≢true}
use Rattle.std.proofs.Common.{ltb-false, le-ltb, length-set, ⊎_elim, sym, ◌∙◌, arith}
use Rattle.std.proofs.Math.Path.{ap}
use Rattle.base.specs.Choose.{by_test, if_true, if_false}
use Rattle.datagram.specs.Datagram.{ask_keyed, opening_sound, question_sound, begun, moved, end_asked}
use Rattle.datagram.specs.Keeps.{refused, never}
use Rattle.datagram.specs.Sound.{Held, held, held-opening, is_held, is-held-opening, Ready, ready, is-ready}
use Rattle.datagram.specs.declared.Ask.{Ask}
use Rattle.datagram.specs.declared.Datagram.{Datagram}
use Rattle.datagram.specs.declared.Question.TheVariants as question
use Rattle.datagram.specs.declared.Question.{Question}
use Rattle.mask_reply.proofs.Keeps.{mask-keeps, mask-rests}
use Rattle.opening_reply.proofs.Keeps.{opened-effect, opened-keeps}
use Rattle.opening_reply.specs.Keeps.{Marks}
use Rattle.opening_reply.proofs.Leads.{cancel_drops}
use Rattle.opening_reply.specs.Opening.{cancelled_ask, cancelled, opened_step, Opening}
use Rattle.opening_reply.specs.declared.Cancelled.{Cancelled}
use Rattle.records.proofs.Keeps.{read_keeps, read_stays}
use Rattle.recv_keys.specs.Keeps.{fresh_in_range, installed_in_range, installed-keyed, left_in_range, left-keyed, found-epoch}
use Rattle.recv_keys.specs.Keys.{find, fresh, is_full, installed, left, marked, is_keyed, Found}
use Rattle.recv_keys.specs.Laws.{found-keyed}
use Rattle.recv_keys.specs.declared.RecvKeys.{RecvKeys}
use Rattle.receiving.specs.Calls.Call.{keying, removing, encrypting, releasing, beginning, reading, masking, opening}
use Rattle.receiving.specs.Calls.{Call, answer_refused, after, quiet, run}
use Rattle.receiving.specs.Leads.{remove_at}
use Rattle.receiving.specs.Receiving.{sound, made, fresh_of, key_of, leaving, removed_by, remove_of, encrypt_of, release_of, begin_of, mask_of}
use Rattle.receiving.specs.declared.Done.TheVariants as done
use Rattle.receiving.specs.declared.Kept.{Kept}
use Rattle.receiving.specs.declared.Receiving.{Receiving}

-- a state that calls make: in range, with five entries
pub record Made (s : Receiving) : Type 0 where
  pub ready : Ready s.keys s.datagram
  pub long : length s.keys.entries ≡ 5

abbrev Well : Kept → Type 0
Well k = Made k.state

-- ---- a fresh state

pub fresh-made : (min : ℕ) → min ≤ 17 → Made (fresh_of min).state
unfolding fresh_of question_sound
fresh-made min h =
    let m : Made (record { keys = fresh min; datagram = begun 0 }) =
    record {
      ready = record { keys = fresh_in_range min h; size = omega arith; at = omega arith; readings = omega arith; question = refl };
      long = refl;
    } in
    by_test Well (λ t. m) (λ t. m)

-- ---- keying

question-installed : (k : RecvKeys) (epoch : ℕ) (iv : List ℕ) (room : ℕ) → length k.entries ≡ 5 → is_full k epoch ≡ false
    → (q : Question) → question_sound k q room ≡ true → question_sound (installed k epoch iv) q room ≡ true
unfolding question_sound
question-installed k epoch iv room long free question.Nothing t = refl
question-installed k epoch iv room long free (question.Mask a) t =
    let h = held k a room t in
    is_held (installed k epoch iv) a room
    (record { two = h.two; head = h.head; tag = h.tag; fits = h.fits; installed = installed-keyed k epoch iv long free a.epoch h.installed })
question-installed k epoch iv room long free (question.Opening a n) t =
    let g = held-opening k a n room t in
    let h = g.1 in
    is-held-opening (installed k epoch iv) a n room g.0
    (record { two = h.two; head = h.head; tag = h.tag; fits = h.fits; installed = installed-keyed k epoch iv long free a.epoch h.installed })

installed-long : (k : RecvKeys) (epoch : ℕ) (iv : List ℕ) → length k.entries ≡ 5 → length (installed k epoch iv).entries ≡ 5
unfolding installed
installed-long k epoch iv h = length-set k.entries k.count _ ∙ h

marked-long : (k : RecvKeys) (i n : ℕ) → length k.entries ≡ 5 → length (marked k i n).entries ≡ 5
unfolding marked
marked-long k i n h = length-set k.entries i _ ∙ h

left-long : (k : RecvKeys) (i : ℕ) → length (left k i).entries ≡ 5
unfolding left
left-long k i = refl

key_made : (s : Receiving) (epoch : ℕ) (iv : List ℕ) → Made s → Made (key_of s epoch iv).state
unfolding key_of
key_made s epoch iv m =
    by_test Well (λ t. by_test Well (λ u. m) (λ u. by_test Well (λ v. m) (λ v. by_test Well (λ w. m) (λ w. keyed w)))) (λ t. m)
  where
    keyed : is_full s.keys epoch ≡ false → Made (record { keys = installed s.keys epoch iv; datagram = s.datagram })
    keyed w =
        let r = m.ready in
        record {
          ready = record {
            keys = installed_in_range s.keys epoch iv m.long w r.keys;
            size = r.size;
            at = r.at;
            readings = r.readings;
            question = question-installed s.keys epoch iv _ m.long w s.datagram.question r.question;
          };
          long = installed-long s.keys epoch iv m.long;
        }

-- ---- removing

module _ (k : RecvKeys) (b : Datagram) (epoch i : ℕ) (r : Ready k b) (found : find k.entries epoch k.count ≡ Some i) where
  within : i < k.count
  within = found-keyed k.entries epoch k.count i found

  -- a question under another epoch stays sound
  other-held : (a : Ask) (room : ℕ) → (a.epoch ≡ epoch → ⊥) → Held k a room → Held (left k i) a room
  other-held a room ne h =
      record {
        two = h.two;
        head = h.head;
        tag = h.tag;
        fits = h.fits;
        installed =
            left-keyed k i r.keys.count within a.epoch (λ e. ne (sym e ∙ found-epoch k.entries epoch k.count i found)) h.installed;
      }

  ask-cancelled : (a : Ask) → Held k a (b.size - b.at)
      → (Held (left k i) a (b.size - b.at) → question_sound (left k i) b.question (b.size - b.at) ≡ true)
      → Ready (left k i) (cancelled_ask a b epoch).datagram
  unfolding cancelled_ask question_sound
  ask-cancelled a h same =
      by_test (λ (c : Cancelled). Ready (left k i) c.datagram)
      (λ t. record {
        keys = left_in_range k i r.keys.count within r.keys;
        size = r.size;
        at = omega (arith, h.head, h.fits, r.at);
        readings = r.readings;
        question = refl;
      })
      (λ t. record {
        keys = left_in_range k i r.keys.count within r.keys;
        size = r.size;
        at = r.at;
        readings = r.readings;
        question = same (other-held a _ (eqb-false a.epoch epoch t) h);
      })

  cancelled-ready : (q : Question) → b.question ≡ q → question_sound k q (b.size - b.at) ≡ true → Ready (left k i) (cancelled q b epoch).datagram
  unfolding cancelled question_sound
  cancelled-ready question.Nothing w t =
      record {
        keys = left_in_range k i r.keys.count within r.keys;
        size = r.size;
        at = r.at;
        readings = r.readings;
        question = ap (λ (x : Question). question_sound (left k i) x (b.size - b.at)) w;
      }
  cancelled-ready (question.Mask a) w t =
      ask-cancelled a (held k a _ t) λ h. ap (λ (x : Question). question_sound (left k i) x (b.size - b.at)) w ∙ is_held (left k i) a _ h
  cancelled-ready (question.Opening a n) w t =
      let g = held-opening k a n _ t in
      ask-cancelled a g.1 λ h.
      ap (λ (x : Question). question_sound (left k i) x (b.size - b.at)) w ∙ is-held-opening (left k i) a n _ g.0 h

leaving-made : (c : Cancelled) (k : RecvKeys) → Ready k c.datagram → length k.entries ≡ 5 → Made (leaving c k).state
unfolding leaving
leaving-made c k r l = by_test Well (λ t. record { ready = r; long = l }) (λ t. record { ready = r; long = l })

removed-made : (s : Receiving) (epoch : ℕ) → Made s → (f : Found) → find s.keys.entries epoch s.keys.count ≡ f
    → Made (removed_by f s epoch).state
unfolding removed_by
removed-made s epoch m None q = m
removed-made s epoch m (Some i) q =
    leaving-made _ (left s.keys i)
    (cancelled-ready s.keys s.datagram epoch i m.ready q s.datagram.question refl m.ready.question)
    (left-long s.keys i)

remove_made : (s : Receiving) (epoch : ℕ) → Made s → Made (remove_of s epoch).state
unfolding remove_of
remove_made s epoch m = by_test Well (λ t. removed-made s epoch m _ refl) (λ t. m)

-- ---- the others

abbrev flagged : RecvKeys → Bool → Bool → RecvKeys
flagged k on out = record {
  entries = k.entries;
  count = k.count;
  highest = k.highest;
  peer_encryption = on;
  released = out;
  min_protected = k.min_protected;
}

question-flagged : (k : RecvKeys) (on out : Bool) (q : Question) (room : ℕ) → question_sound k q room ≡ true
    → question_sound (flagged k on out) q room ≡ true
unfolding question_sound ask_keyed opening_sound is_keyed
question-flagged k on out question.Nothing room t = t
question-flagged k on out (question.Mask a) room t = t
question-flagged k on out (question.Opening a n) room t = t

flagged-made : (s : Receiving) (on out : Bool) → Made s → Made (record { keys = flagged s.keys on out; datagram = s.datagram })
flagged-made s on out m =
    let r = m.ready in
    record {
      ready = record {
        keys = record { count = r.keys.count; min = r.keys.min; apps = r.keys.apps; windows = r.keys.windows };
        size = r.size;
        at = r.at;
        readings = r.readings;
        question = question-flagged s.keys on out s.datagram.question _ r.question;
      };
      long = m.long;
    }

encrypt_made : (s : Receiving) → Made s → Made (encrypt_of s).state
unfolding encrypt_of
encrypt_made s m = by_test Well (λ t. flagged-made s true s.keys.released m) (λ t. m)

release_made : (s : Receiving) → Made s → Made (release_of s).state
unfolding release_of
release_made s m = by_test Well (λ t. flagged-made s s.keys.peer_encryption true m) (λ t. m)

begin_made : (s : Receiving) (n : ℕ) → Made s → Made (begin_of s n).state
unfolding begin_of question_sound
begin_made s n m =
    by_test Well
    (λ t. by_test Well (λ u. m)
    (λ u. record {
      ready = record { keys = m.ready.keys; size = ltb-false 16384 n u; at = omega arith; readings = omega arith; question = refl };
      long = m.long;
    }))
    (λ t. m)

pub made-sound : (s : Receiving) → Made s → sound s ≡ true
made-sound s m = is-ready s.keys s.datagram m.ready

opened-long : (k l : RecvKeys) (b : Datagram) (o : Opening) → length k.entries ≡ 5 → (l ≡ k) ⊎ Marks k b o l → length l.entries ≡ 5
opened-long k l b o h c =
    ⊎_elim (λ e. ap (λ (x : RecvKeys). length x.entries) e ∙ h)
    (λ w. ap (λ (x : RecvKeys). length x.entries) w.keys ∙ marked-long k w.place w.number h) c

-- every call keeps the ranges
pub after-made : (c : Call) (s : Receiving) → Made s → Made (after c s).state
after-made (keying e iv) s m = key_made s e iv m
after-made (removing e) s m = remove_made s e m
after-made encrypting s m = encrypt_made s m
after-made releasing s m = release_made s m
after-made (beginning n) s m = begin_made s n m
after-made (reading d) s m =
    record { ready = ready _ _ (read_keeps s.keys s.datagram d (made-sound s m)); long = m.long }
after-made (masking n d) s m =
    record { ready = ready _ _ (mask-keeps s.keys s.datagram n d (made-sound s m)); long = m.long }
after-made (opening o d) s m =
    record {
      ready = ready _ _ (opened-keeps s.keys s.datagram o d m.long (made-sound s m));
      long = opened-long s.keys _ s.datagram o m.long (opened-effect s.keys s.datagram o d).moves;
    }

pub run-made : (cs : List Call) (s : Receiving) → Made s → Made (run cs s)
run-made [] s m = m
run-made (c ∷ cs) s m = run-made cs (after c s).state (after-made c s m)

-- ---- refused means unchanged

abbrev Keeps : Receiving → Kept → Type 0
Keeps s k = answer_refused k.answer ≡ true → k.state ≡ s

key_stays : (s : Receiving) (epoch : ℕ) (iv : List ℕ) → Keeps s (key_of s epoch iv)
unfolding key_of
key_stays s epoch iv =
    by_test (Keeps s)
    (λ t. by_test (Keeps s) (λ u e. refl)
    (λ u. by_test (Keeps s) (λ v e. refl) (λ v. by_test (Keeps s) (λ w e. refl) (λ w e. never refl e))))
    (λ t e. refl)

removed-stays : (s : Receiving) (epoch : ℕ) (f : Found) → Keeps s (removed_by f s epoch)
unfolding removed_by leaving
removed-stays s epoch None = λ e. refl
removed-stays s epoch (Some i) = by_test (Keeps s) (λ t e. never refl e) (λ t e. never refl e)

remove_stays : (s : Receiving) (epoch : ℕ) → Keeps s (remove_of s epoch)
unfolding remove_of
remove_stays s epoch = by_test (Keeps s) (λ t. removed-stays s epoch _) (λ t e. refl)

encrypt_stays : (s : Receiving) → Keeps s (encrypt_of s)
unfolding encrypt_of
encrypt_stays s = by_test (Keeps s) (λ t e. never refl e) (λ t e. refl)

release_stays : (s : Receiving) → Keeps s (release_of s)
unfolding release_of
release_stays s = by_test (Keeps s) (λ t e. never refl e) (λ t e. refl)

begin_stays : (s : Receiving) (n : ℕ) → Keeps s (begin_of s n)
unfolding begin_of
begin_stays s n = by_test (Keeps s) (λ t. by_test (Keeps s) (λ u e. refl) (λ u e. never refl e)) (λ t e. refl)

abbrev around : RecvKeys → Datagram → Receiving
around k b = record { keys = k; datagram = b }

pub refused-stays : (c : Call) (s : Receiving) → (after c s).refused ≡ true → (after c s).state ≡ s
refused-stays (keying epoch iv) s e = key_stays s epoch iv e
refused-stays (removing epoch) s e = remove_stays s epoch e
refused-stays encrypting s e = encrypt_stays s e
refused-stays releasing s e = release_stays s e
refused-stays (beginning n) s e = begin_stays s n e
refused-stays (reading d) s e = ap (around s.keys) (read_stays s.keys s.datagram d e)
refused-stays (masking m d) s e = ap (around s.keys) (mask-rests s.keys s.datagram m d e).0
refused-stays (opening o d) s e =
    let w = (opened-effect s.keys s.datagram o d).stays e in
    ap (λ (k : RecvKeys). around k (opened_step s.keys s.datagram o d).step.datagram) w.0 ∙ ap (around s.keys) w.1

-- a refused mask writes nothing
pub mask-writes_not : (s : Receiving) (m d : List ℕ) → refused (mask_of s m d).0.reading ≡ true → (mask_of s m d).1 ≡ d
mask-writes_not s m d e = (mask-rests s.keys s.datagram m d e).1

-- ---- windows

abbrev SameWindows : Receiving → Receiving → Type 0
SameWindows s t = (t.keys.entries ≡ s.keys.entries) × (t.keys.count ≡ s.keys.count)

abbrev Quiet : Receiving → Kept → Type 0
Quiet s k = SameWindows s k.state

encrypt_quiet : (s : Receiving) → Quiet s (encrypt_of s)
unfolding encrypt_of
encrypt_quiet s = by_test (Quiet s) (λ t. (refl, refl)) (λ t. (refl, refl))

release_quiet : (s : Receiving) → Quiet s (release_of s)
unfolding release_of
release_quiet s = by_test (Quiet s) (λ t. (refl, refl)) (λ t. (refl, refl))

begin_quiet : (s : Receiving) (n : ℕ) → Quiet s (begin_of s n)
unfolding begin_of
begin_quiet s n = by_test (Quiet s) (λ t. by_test (Quiet s) (λ u. (refl, refl)) (λ u. (refl, refl))) (λ t. (refl, refl))

-- only keying, removing and a yes move windows
pub quiet-windows : (c : Call) (s : Receiving) → quiet c ≡ true → SameWindows s (after c s).state
quiet-windows (keying epoch iv) s e = absurd (false≢true e)
quiet-windows (removing epoch) s e = absurd (false≢true e)
quiet-windows encrypting s e = encrypt_quiet s
quiet-windows releasing s e = release_quiet s
quiet-windows (beginning n) s e = begin_quiet s n
quiet-windows (reading d) s e = (refl, refl)
quiet-windows (masking m d) s e = (refl, refl)
quiet-windows (opening (Some n) d) s e = absurd (false≢true e)
quiet-windows (opening None d) s e =
    ⊎_elim (λ p. (ap (λ (k : RecvKeys). k.entries) p, ap (λ (k : RecvKeys). k.count) p))
    (λ w. let p = w.said in let z : ◌≡◌ {A = ℕ} 0 1 = cc in absurd (omega arith)) (opened-effect s.keys s.datagram None d).moves

-- ---- what cancels a question

-- removing the epoch of the record under a question drops it by 6, and the cut goes on behind it
pub remove_cancels : (s : Receiving) (epoch i : ℕ) (a : Ask) → sound s ≡ true → find s.keys.entries epoch s.keys.count ≡ Some i
    → a.epoch ≡ epoch → (s.datagram.question ≡ question.Mask a) ⊎ ((n : ℕ) × (s.datagram.question ≡ question.Opening a n))
    → remove_of s epoch ≡ made (Ok done.Dropped) (left s.keys i) (moved s.datagram (end_asked s.datagram a) s.datagram.readings)
unfolding leaving
remove_cancels s epoch i a t f e q =
    remove_at s epoch i t f
    ∙ ap (λ (c : Cancelled). leaving c (left s.keys i)) (cancel_drops s.datagram epoch a s.datagram.question e q)
    ∙ if_true _ _ refl

-- beginning a datagram leaves no question
pub begin_cancels : (s : Receiving) (n : ℕ) → sound s ≡ true → n ≤ 16384 → begin_of s n ≡ made (Ok done.Asked) s.keys (begun n)
unfolding begin_of
begin_cancels s n t h = if_true _ _ t ∙ if_false _ _ (le-ltb 16384 n h)
