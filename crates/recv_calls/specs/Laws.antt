-- From what a call's parts ensure to what the call ensures. Assumes nothing.
use Rattle.std.specs.Prelude.{⊤, Ok, Err, true, false, List, ◌≡◌, refl, ℕ, ◌≤◌, eqb, length}
use Rattle.std.proofs.Common.{sym, ap, subst, ◌∙◌, arith}
use Rattle.base.specs.Choose.{choose, if_true, if_false, by_test}
use Rattle.datagram.specs.declared.Datagram.{Datagram}
use Rattle.base.specs.Parts.{part}
use Rattle.datagram.specs.declared.Reading.TheVariants as says
use Rattle.datagram.specs.declared.Reading.{Reading}
use Rattle.datagram.specs.declared.Step.{Step}
use Rattle.opening_reply.specs.Opening.{shown_by}
use Rattle.recv_keys.specs.Keys.{fresh}
use Rattle.datagram.specs.Datagram.{begun, question_sound, is_sound}
use Rattle.datagram.specs.Sound.{ready, is-ready}
use Rattle.recv_words.specs.Entries.{fresh_words, starts}
use Rattle.recv_keys.specs.declared.RecvKeys.{RecvKeys}
use Rattle.receiving.specs.Laws.{begin_cancels}
use Rattle.receiving.specs.Receiving.{sound, kept, made, stepped, key_of, encrypt_of, release_of, begin_of, refusal_number, Answer}
use Rattle.receiving.specs.declared.Receiving.{Receiving}
use Rattle.receiving.specs.declared.Refusal.{Refusal}
use Rattle.receiving.specs.declared.Refusal.TheVariants as refused
use Rattle.receiving.specs.declared.Done.{Done}
use Rattle.receiving.specs.declared.Done.TheVariants as done
use Rattle.records.specs.Records.{read_step}
use Rattle.receiving.specs.declared.Kept.{Kept}
use Rattle.recv_words.specs.Words.{keys_of, datagram_of, is_flat}
use Rattle.recv_calls.specs.Flat.{answer_of, bare, flat_reading}
use Rattle.recv_key_steps.specs.Kept.{state_of, Kept-as}
use Rattle.recv_calls.specs.Calls.{Does, Reads, first_reading, first_state, BeginReadCall, Stepped}
use Rattle.recv_calls.specs.declared.HuskReading.{HuskReading}

-- ---- calls that read nothing

pub does : (r : ℕ) (a : Answer) (v w : List ℕ) (k : Kept) → is_flat w ≡ true → r ≡ answer_of a → Kept-as a v w k → Does r v w k
does r a v w k f e h = (e ∙ ap answer_of h.0 ∙ sym (if_true _ _ f), h.1 ∙ sym (if_true _ _ f), h.2)

-- an answer that tells of no record dropped
abbrev Asks : Answer → Type 0
Asks (Ok done.Asked) = ⊤
Asks (Ok done.Dropped) = ⊥
Asks (Err r) = ⊤

done-by : (d : Done) → Asks (Ok d) → 0 ≡ answer_of (Ok d)
done-by done.Asked h = refl
done-by done.Dropped h = absurd h

pub key-asks : (s : Receiving) (epoch : ℕ) (iv : List ℕ) → Asks (key_of s epoch iv).answer
unfolding key_of
key-asks s epoch iv =
    let P = λ (k : Kept). Asks k.answer in
    by_test P (λ _. by_test P (λ _. tt) (λ _. by_test P (λ _. tt) (λ _. by_test P (λ _. tt) (λ _. tt)))) (λ _. tt)

pub encrypt-asks : (s : Receiving) → Asks (encrypt_of s).answer
unfolding encrypt_of
encrypt-asks s = by_test (λ (k : Kept). Asks k.answer) (λ _. tt) (λ _. tt)

pub release-asks : (s : Receiving) → Asks (release_of s).answer
unfolding release_of
release-asks s = by_test (λ (k : Kept). Asks k.answer) (λ _. tt) (λ _. tt)

pub begin-asks : (s : Receiving) (n : ℕ) → Asks (begin_of s n).answer
unfolding begin_of
begin-asks s n =
    let P = λ (k : Kept). Asks k.answer in
    by_test P (λ _. by_test P (λ _. tt) (λ _. tt)) (λ _. tt)

pub does-ok : {a : Answer} (d : Done) (v w : List ℕ) (k : Kept) → is_flat w ≡ true → Asks k.answer → a ≡ Ok d → Kept-as a v w k → Does 0 v w k
does-ok d v w k f p q h = does 0 _ v w k f (done-by d (subst Asks (sym h.0 ∙ q) p) ∙ ap answer_of (sym q)) h

pub does-err : {a : Answer} (r : Refusal) (v w : List ℕ) (k : Kept) → is_flat w ≡ true → a ≡ Err r → Kept-as a v w k → Does (refusal_number r) v w k
does-err r v w k f q h = does _ _ v w k f (ap answer_of (sym q)) h

-- a refusal is never 0
pub not-done : (r : Refusal) → eqb (refusal_number r) 0 ≡ false
not-done refused.Setting = refl
not-done refused.TooLong = refl
not-done refused.Unusable = refl
not-done refused.Full = refl

pub does-nothing : (w : List ℕ) (k : Kept) → is_flat w ≡ false → Does 12 w w k
does-nothing w k f = (sym (if_false _ _ f), sym (if_false _ _ f), refl)

-- ---- calls that read

pub state-by : (v : List ℕ) {keys : RecvKeys} {b : Datagram} → keys_of v ≡ keys → datagram_of v ≡ b → state_of v ≡ record { keys = keys; datagram = b }
state-by v {keys} p q =
    ap (λ (x : RecvKeys). record { keys = x; datagram = datagram_of v }) p ∙ ap (λ (x : Datagram). record { keys = keys; datagram = x }) q

-- u is the state before the step, with keys already as the definition has them
pub reads : (r : HuskReading) (v u w : List ℕ) (keys : RecvKeys) (t s : Step) → is_flat w ≡ true → Stepped r v u t → keys_of u ≡ keys → t ≡ s → Reads r v w (stepped keys s)
reads r v u w keys t s f h p e = (
  h.0 ∙ ap (λ (x : Step). flat_reading x.reading x.nonce) e ∙ sym (if_true _ _ f),
  state-by v (h.1 ∙ p) (h.2 ∙ ap (λ (x : Step). x.datagram) e) ∙ sym (if_true _ _ f),
  h.3 ∙ sym f,
)

-- ---- a datagram begun, and its first record read

-- a datagram just begun is in range where its length is
pub begun-sound : (k : RecvKeys) (b : Datagram) (n : ℕ) → is_sound k b ≡ true → n ≤ 16384 → is_sound k (begun n) ≡ true
unfolding question_sound
begun-sound k b n t h =
    is-ready k (begun n) (record { keys = (ready k b t).keys; size = h; at = omega arith; readings = omega arith; question = refl })

-- refused: the state as it was
pub first-refused : (a : Answer) (r : HuskReading) (w d : List ℕ) → r ≡ bare 0 (answer_of a) → eqb (answer_of a) 0 ≡ false → is_flat w ≡ true → begin_of (state_of w) (length d) ≡ kept (state_of w) a
    → BeginReadCall r w w d
unfolding first_reading first_state
first-refused a r w d q e f k = (
  q ∙ sym (if_true _ _ f ∙ ap (λ (x : Kept). first_reading x d) k ∙ if_false _ _ e),
  sym (if_true _ _ f ∙ ap (λ (x : Kept). first_state x d) k ∙ if_false _ _ e),
  refl,
)

pub first_read : (r : HuskReading) (v w d : List ℕ) → sound (state_of w) ≡ true → length d ≤ 16384 → is_flat w ≡ true
    → Stepped r v w (read_step (keys_of w) (begun (length d)) d) → BeginReadCall r v w d
unfolding first_reading first_state
first_read r v w d t l f h =
    let k = begin_cancels (state_of w) (length d) t l in (
      h.0 ∙ sym (if_true _ _ f ∙ ap (λ (x : Kept). first_reading x d) k ∙ if_true _ _ refl),
      state-by v h.1 h.2 ∙ sym (if_true _ _ f ∙ ap (λ (x : Kept). first_state x d) k ∙ if_true _ _ refl),
      h.3 ∙ sym f,
    )

-- ---- the start

pub starts_as : (min : ℕ) (w : List ℕ) (a : Answer) (k : Kept) → w ≡ fresh_words min → k ≡ made a (fresh min) (begun 0)
    → (answer_of a ≡ answer_of k.answer) × (state_of w ≡ k.state) × (is_flat w ≡ true)
starts_as min w a k e q =
    subst (λ (x : Kept). (answer_of a ≡ answer_of x.answer) × (state_of w ≡ x.state) × (is_flat w ≡ true)) (sym q)
    (subst (λ (v : List ℕ). (answer_of a ≡ answer_of a) × (state_of v ≡ record { keys = fresh min; datagram = begun 0 }) × (is_flat v ≡ true)) (sym e)
    (refl, state-by (fresh_words min) (starts min).0 (starts min).1, (starts min).2))

-- ---- the bytes that a reading shows: from start on, length of them, or header_len for an opening question

pub shows : (r : Reading) (v d : List ℕ)
    → part (flat_reading r v).start (choose (eqb (flat_reading r v).kind 7) (flat_reading r v).header_len (flat_reading r v).length) d ≡ shown_by r d
unfolding choose
shows says.Setting v d = refl
shows says.Reply v d = refl
shows says.End v d = refl
shows says.Incomplete v d = refl
shows says.TooMany v d = refl
shows (says.Dropped r) v d = refl
shows (says.Plaintext t n s l) v d = refl
shows (says.Unopened b n s l) v d = refl
shows (says.Opened e n t s l) v d = refl
shows (says.Mask e s) v d = refl
shows (says.Opening e n s h l) v d = refl
