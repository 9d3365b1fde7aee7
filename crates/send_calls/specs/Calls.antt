-- The calls of the sending side's C interface: each is the call on the state that the words stand for. Words that stand for none are
-- refused by 12, and state and memory stay.
use Rattle.std.specs.Prelude.{true, false, List, [], ◌∷◌, ◌≡◌, refl, ℕ, ◌*◌, replicate, length, set, Some, None, Ok, Err}
use Rattle.std.proofs.Math.Path.{sym}
use Rattle.std.proofs.Common.{ap, ◌∙◌, arith, ltb-true}
use Rattle.base.specs.Choose.{choose, if_true, if_false, both_true, by_test}
use Rattle.base.specs.Parts.{part, splice}
use Rattle.send_keys.specs.Keys as keying
use Rattle.outgoing.specs.State.{no_waiting, fresh_sending, started, keying_state}
use Rattle.outgoing.specs.declared.Sending.{Sending}
use Rattle.outgoing.specs.declared.Sent.{Sent}
use Rattle.sealing.specs.Sealing as sealings
use Rattle.sealing.specs.Sealing.{Asked}
use Rattle.sealing.specs.declared.Reply.{Reply}
use Rattle.taking.specs.Take.{TakeAnswer}
use Rattle.taking.specs.declared.Take.{Take}
use Rattle.taking.specs.declared.TakeError.TheVariants as take
use Rattle.words.specs.Packed.{iv_of}
use Rattle.send_words.specs.Words.{words, mtu-at, limit-at, lows_from, state_of, is_flat}
use Rattle.send_words.specs.Laws.{slot-length}
use Rattle.queue.specs.Queue.{is_setting, ready}
use Rattle.take_steps.specs.Front.{front_of, told, begins}
use Rattle.outgoing.specs.Send.{send_answer, send_state, send_memory}
use Rattle.taking.specs.Take as takes
use Rattle.send_steps.specs.Sends as steps
use Rattle.send_keys.specs.Answer.{SendAnswer, refusal}
use Rattle.send_calls.specs.declared.HuskSealing.{HuskSealing}
use Rattle.send_calls.specs.declared.HuskTake.{HuskTake}
use Rattle.send_calls.specs.declared.HuskPart.{HuskPart}

abbrev pub masks : ℕ → ℕ → List ℕ
masks m n = m ∷ n ∷ []

-- lent memory: as the call leaves it, or as it was
abbrev pub either : List ℕ → List ℕ → List ℕ → List ℕ
either w x y = choose (is_flat w) x y

-- ---- answers flat

abbrev pub no_sealing : ℕ → ℕ → HuskSealing
no_sealing kind n = record { kind = kind; refusal = n; epoch = 0; number = 0; start = 0; length = 0; nonce = replicate 12 0; header = replicate 5 0 }

abbrev pub flat_sealing : Asked → HuskSealing
flat_sealing (Ok (Some x)) = record { kind = 2; refusal = 0; epoch = x.epoch; number = x.number; start = x.start; length = x.length; nonce = x.nonce; header = x.header }
flat_sealing (Ok None) = no_sealing 1 0
flat_sealing (Err x) = no_sealing 0 (sealings.refusal (Err x))

abbrev pub no_take : ℕ → ℕ → ℕ → HuskTake
no_take kind n len = record { kind = kind; refusal = n; length = len }

abbrev pub flat_take : TakeAnswer → HuskTake
flat_take (Ok (Some n)) = no_take 2 0 n
flat_take (Err take.OutOfRange) = no_take 0 12 0
flat_take (Ok None) = no_take 1 0 0
flat_take (Err take.Unsealed) = no_take 0 23 0
flat_take (Err (take.Short n)) = no_take 0 16 n

abbrev pub no_part : ℕ → ℕ → HuskPart
no_part kind n = record { kind = kind; refusal = n; start = 0; length = 0 }

-- a datagram that is taken begins at start
abbrev pub flat_part : TakeAnswer → ℕ → HuskPart
flat_part (Ok (Some n)) start = record { kind = 2; refusal = 0; start = start; length = n }
flat_part (Err take.OutOfRange) start = no_part 0 12
flat_part (Ok None) start = no_part 1 0
flat_part (Err take.Unsealed) start = no_part 0 23
flat_part (Err (take.Short n)) start = no_part 0 16

-- ---- w before a call, v behind it, k what the definition makes of the state

-- the state behind it
abbrev pub After : List ℕ → List ℕ → Sending → Type 0
After v w s = (state_of v ≡ choose (is_flat w) s (state_of w)) × (is_flat v ≡ is_flat w)

abbrev pub Sends : ℕ → List ℕ → List ℕ → Sent → Type 0
Sends r v w k = (r ≡ choose (is_flat w) (refusal k.answer) 12) × After v w k.state

abbrev pub Keys : ℕ → List ℕ → List ℕ → Sent → Type 0
Keys r v w k = (r ≡ choose (is_flat w) (refusal k.answer) 12) × After v w k.state

abbrev pub Seals : List ℕ → Asked → HuskSealing
Seals w k = choose (is_flat w) (flat_sealing k) (no_sealing 0 12)

abbrev pub Takes : ℕ → List ℕ → List ℕ → Reply → Type 0
Takes r v w k = (r ≡ choose (is_flat w) (sealings.refusal k.answer) 12) × After v w k.state

abbrev pub Taken : HuskTake → List ℕ → List ℕ → Take → Type 0
Taken r v w k = (r ≡ choose (is_flat w) (flat_take k.answer) (no_take 0 12 0)) × After v w k.state

-- ---- the contracts of the calls, here and over C: r answered; w, q before; v, p behind

abbrev pub FreshCall : ℕ → List ℕ → ℕ → ℕ → Type 0
FreshCall r v mtu limit = (r ≡ refusal (started mtu limit).answer) × (state_of v ≡ (started mtu limit).state) × (is_flat v ≡ true)

abbrev pub KeySendCall : ℕ → List ℕ → List ℕ → ℕ → List ℕ → Type 0
KeySendCall r v w epoch iv = Keys r v w (keying_state (state_of w) epoch iv)

-- a record of type t with content c
abbrev pub SendCall : ℕ → List ℕ → List ℕ → ℕ → ℕ → List ℕ → List ℕ → List ℕ → Type 0
SendCall r v w epoch t c p q =
    Sends r v w (send_state (send_answer (state_of w) (length q) epoch t (length c)) (state_of w) epoch (length c))
    × (p ≡ either w (send_memory (send_answer (state_of w) (length q) epoch t (length c)) (state_of w) epoch t c q) q)

abbrev pub SealingCall : HuskSealing → List ℕ → Type 0
SealingCall r w = r ≡ Seals w (sealings.question_of (state_of w))

abbrev pub SealedCall : ℕ → List ℕ → List ℕ → ℕ → ℕ → ℕ → List ℕ → List ℕ → Type 0
SealedCall r v w len m n p q =
    Takes r v w (sealings.sealed_state (sealings.seal_answer (state_of w) (length q) len) (state_of w) q)
    × (p ≡ either w (sealings.sealed_memory (sealings.seal_answer (state_of w) (length q) len) (state_of w) (masks m n) q) q)

-- b the buffer before, c behind
abbrev pub TakeCall : HuskTake → List ℕ → List ℕ → List ℕ → List ℕ → List ℕ → Type 0
TakeCall r v w c b q =
    Taken r v w (takes.take_state (takes.take_answer (state_of w) (length q) (length b)) (state_of w))
    × (c ≡ either w (takes.take_buffer (takes.take_answer (state_of w) (length q) (length b)) (state_of w) q b) b)

-- the answer for a buffer that holds every length
abbrev pub place_answer : List ℕ → ℕ → TakeAnswer
place_answer w room = takes.take_answer (state_of w) room 65535

-- the part of the queue told is what TakeCall puts at the start of such a buffer b, whatever stands in it
abbrev pub TakeInPlaceCall : HuskPart → List ℕ → List ℕ → List ℕ → Type 0
TakeInPlaceCall r v w q =
    (r ≡ choose (is_flat w) (flat_part (place_answer w (length q)) ((state_of w).queue.first * (state_of w).queue.mtu)) (no_part 0 12))
    × After v w (takes.take_state (place_answer w (length q)) (state_of w)).state
    × ((b : List ℕ) → length b ≡ 65535
    → splice 0 (part r.start r.length q) b ≡ either w (takes.take_buffer (takes.take_answer (state_of w) (length q) (length b)) (state_of w) q b) b)

-- ---- from the parts to the whole

-- words of 0 but for the settings
abbrev zeros : ℕ → ℕ → List ℕ
zeros mtu limit = set (set (replicate words 0) mtu-at mtu) limit-at limit

zeros-fresh : (mtu limit : ℕ) → (state_of (zeros mtu limit) ≡ fresh_sending mtu limit) × (is_flat (zeros mtu limit) ≡ true)
unfolding lows_from iv_of is_flat fresh_sending no_waiting keying.no_keys keying.no_epoch
zeros-fresh mtu limit = (refl, both_true refl)

module _ (mtu limit : ℕ) where
  pub starts-done : is_setting mtu limit ≡ true → FreshCall 0 (zeros mtu limit) mtu limit
  unfolding started
  starts-done h = let z = zeros-fresh mtu limit in (ap refusal (sym (if_true _ _ h)), z.0, z.1)

  pub starts-refused : is_setting mtu limit ≡ false → FreshCall 12 (zeros mtu limit) mtu limit
  unfolding started
  starts-refused h = let z = zeros-fresh mtu limit in (ap refusal (sym (if_false _ _ h)), z.0, z.1)

-- ---- a record laid, or refused

pub sends : {r e t : ℕ} {a : SendAnswer} {w v c q p : List ℕ} → is_flat w ≡ true → r ≡ refusal a → steps.Sends a e t c w v q p → SendCall r v w e t c p q
unfolding send_state
sends f g y = rw (← y.answer) ((g ∙ sym (if_true _ _ f), (y.state ∙ sym (if_true _ _ f), y.flat f ∙ sym f)), y.memory ∙ sym (if_true _ _ f))

-- ---- a datagram taken in place

pub part_at : (a : TakeAnswer) (s : Sending) → flat_part (told (front_of a s)) (begins (front_of a s)) ≡ flat_part a (s.queue.first * s.queue.mtu)
part_at (Ok (Some n)) s = refl
part_at (Ok None) s = refl
part_at (Err take.OutOfRange) s = refl
part_at (Err take.Unsealed) s = refl
part_at (Err (take.Short n)) s = refl

abbrev InBuffer : Sending → List ℕ → List ℕ → TakeAnswer → Type 0
InBuffer s q b a =
    splice 0 (part (flat_part a (s.queue.first * s.queue.mtu)).start (flat_part a (s.queue.first * s.queue.mtu)).length q) b ≡ takes.take_buffer a s q b

nowhere : (q b : List ℕ) → splice 0 (part 0 0 q) b ≡ b
unfolding splice
nowhere q b = refl

in_buffer : (s : Sending) (q b : List ℕ) (room have : ℕ) → InBuffer s q b (takes.take_answer s room have)
unfolding takes.take_answer takes.take_buffer
in_buffer s q b room have =
    by_test (InBuffer s q b)
    (λ r. by_test (InBuffer s q b) (λ n. nowhere q b ∙ sym (if_false _ _ refl))
    (λ n. by_test (InBuffer s q b)
    (λ l. by_test (InBuffer s q b) (λ x. nowhere q b ∙ sym (if_false _ _ refl))
    (λ x. by_test (InBuffer s q b) (λ f. nowhere q b ∙ sym (if_false _ _ refl)) (λ f. sym (if_true _ _ refl))))
    (λ l. nowhere q b ∙ sym (if_false _ _ refl))))
    (λ r. nowhere q b ∙ sym (if_false _ _ refl))

pub taken-part : (r : HuskPart) (w q b : List ℕ) → is_flat w ≡ true → r ≡ flat_part (place_answer w (length q)) ((state_of w).queue.first * (state_of w).queue.mtu)
    → length b ≡ 65535 → splice 0 (part r.start r.length q) b ≡ either w (takes.take_buffer (takes.take_answer (state_of w) (length q) (length b)) (state_of w) q b) b
taken-part r w q b f e h =
    ap (λ (x : HuskPart). splice 0 (part x.start x.length q) b) e
    ∙ in_buffer (state_of w) q b (length q) 65535
    ∙ ap (λ (n : ℕ). takes.take_buffer (takes.take_answer (state_of w) (length q) n) (state_of w) q b) (sym h)
    ∙ sym (if_true _ _ f)

pub no-part : (r : HuskPart) (w q b : List ℕ) (x : List ℕ) → is_flat w ≡ false → r ≡ no_part 0 12 → splice 0 (part r.start r.length q) b ≡ either w x b
no-part r w q b x f e = ap (λ (y : HuskPart). splice 0 (part y.start y.length q) b) e ∙ nowhere q b ∙ sym (if_false _ _ f)

-- 16 is not answered: no length is beyond 65,535
pub never-short : (w : List ℕ) (room : ℕ) → takes.refusal (place_answer w room) ≡ 16 → ⊥
unfolding takes.take_answer
never-short w room =
    by_test (λ (a : TakeAnswer). takes.refusal a ≡ 16 → ⊥)
    (λ r. by_test (λ (a : TakeAnswer). takes.refusal a ≡ 16 → ⊥) (λ n z. omega arith)
    (λ n. by_test (λ (a : TakeAnswer). takes.refusal a ≡ 16 → ⊥)
    (λ l. by_test (λ (a : TakeAnswer). takes.refusal a ≡ 16 → ⊥) (λ x z. omega arith)
    (λ x. by_test (λ (a : TakeAnswer). takes.refusal a ≡ 16 → ⊥)
    (λ f z.
    let i = (ready {q = (state_of w).queue} r).range in
    omega (arith, ltb-true 65535 (takes.front_len (state_of w)) f, slot-length w (state_of w).queue.first (omega (arith, i.first, i.limit))))
    (λ f z. omega arith)))
    (λ l z. omega arith)))
    (λ r z. omega arith)
