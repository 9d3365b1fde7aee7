-- The range test, as what it asks. Assumes nothing.
use Rattle.std.specs.Prelude.{ℕ, ◌-◌, ◌≤◌, true, ◌≡◌}
use Rattle.std.proofs.Common.{leb-true, le-leb, sym, ap, ◌∙◌}
use Rattle.base.specs.Choose.{both_left, both_right, both_true}
use Rattle.recv_keys.specs.Keeps.{InRange, in-range, is_in_range}
use Rattle.recv_keys.specs.Keys.{is_keyed}
use Rattle.recv_keys.specs.declared.RecvKeys.{RecvKeys}
use Rattle.datagram.specs.Datagram.{ask_sound, ask_keyed, opening_sound, question_sound, is_sound}
use Rattle.datagram.specs.declared.Ask.{Ask}
use Rattle.datagram.specs.declared.Datagram.{Datagram}
use Rattle.datagram.specs.declared.Question.TheVariants as question
use Rattle.datagram.specs.declared.Question.{Question}

-- ---- the record under a question

pub record Held (k : RecvKeys) (a : Ask) (room : ℕ) : Type 0 where
  pub two : 2 ≤ a.header_len
  pub head : a.header_len ≤ room
  pub tag : 16 ≤ a.length
  pub fits : a.length ≤ room - a.header_len
  pub installed : is_keyed k a.epoch ≡ true

pub held : (k : RecvKeys) (a : Ask) (room : ℕ) → ask_keyed k a room ≡ true → Held k a room
unfolding ask_keyed ask_sound
held k a room u =
    let t = both_left _ _ u in
    let t1 = both_right _ _ t in
    let t2 = both_right _ _ t1 in
    record {
      two = leb-true _ _ (both_left _ _ t);
      head = leb-true _ _ (both_left _ _ t1);
      tag = leb-true _ _ (both_left _ _ t2);
      fits = leb-true _ _ (both_right _ _ t2);
      installed = both_right _ _ u;
    }

pub is_held : (k : RecvKeys) (a : Ask) (room : ℕ) → Held k a room → ask_keyed k a room ≡ true
unfolding ask_keyed ask_sound
is_held k a room h =
    both_true
    (both_true (le-leb _ _ h.two) ∙ both_true (le-leb _ _ h.head) ∙ both_true (le-leb _ _ h.tag) ∙ le-leb _ _ h.fits)
    ∙ h.installed

pub held-opening : (k : RecvKeys) (a : Ask) (n room : ℕ) → opening_sound k a n room ≡ true → (n ≤ 0xFFFF_FFFF_FFFF) × Held k a room
unfolding opening_sound
held-opening k a n room t = (leb-true _ _ (both_left _ _ t), held k a room (both_right _ _ t))

pub is-held-opening : (k : RecvKeys) (a : Ask) (n room : ℕ) → n ≤ 0xFFFF_FFFF_FFFF → Held k a room → opening_sound k a n room ≡ true
unfolding opening_sound
is-held-opening k a n room l h = both_true (le-leb _ _ l) ∙ is_held k a room h

-- ---- the whole

pub record Ready (k : RecvKeys) (b : Datagram) : Type 0 where
  pub keys : InRange k
  pub size : b.size ≤ 16384
  pub at : b.at ≤ b.size
  pub readings : b.readings ≤ 16
  pub question : question_sound k b.question (b.size - b.at) ≡ true

pub ready : (k : RecvKeys) (b : Datagram) → is_sound k b ≡ true → Ready k b
unfolding is_sound
ready k b t =
    let t1 = both_right _ _ t in
    let t2 = both_right _ _ t1 in
    let t3 = both_right _ _ t2 in
    record {
      keys = in-range k (both_left _ _ t);
      size = leb-true _ _ (both_left _ _ t1);
      at = leb-true _ _ (both_left _ _ t2);
      readings = leb-true _ _ (both_left _ _ t3);
      question = both_right _ _ t3;
    }

pub is-ready : (k : RecvKeys) (b : Datagram) → Ready k b → is_sound k b ≡ true
unfolding is_sound
is-ready k b r =
    both_true (is_in_range k r.keys) ∙ both_true (le-leb _ _ r.size) ∙ both_true (le-leb _ _ r.at) ∙ both_true (le-leb _ _ r.readings) ∙ r.question

-- ---- a state in range whose question is known

module _ (k : RecvKeys) (b : Datagram) (t : is_sound k b ≡ true) where
  pub held-mask : (a : Ask) → b.question ≡ question.Mask a → Held k a (b.size - b.at)
  unfolding question_sound
  held-mask a q = held k a _ (sym (ap (λ (x : Question). question_sound k x (b.size - b.at)) q) ∙ (ready k b t).question)

  pub held_open : (a : Ask) (n : ℕ) → b.question ≡ question.Opening a n → (n ≤ 0xFFFF_FFFF_FFFF) × Held k a (b.size - b.at)
  unfolding question_sound
  held_open a n q = held-opening k a n _ (sym (ap (λ (x : Question). question_sound k x (b.size - b.at)) q) ∙ (ready k b t).question)
