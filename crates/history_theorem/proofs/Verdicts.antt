-- What calls do to the window verdicts, and calls over bytes of another length. Assumes nothing.
use Rattle.std.specs.Prelude.{ℕ, zero, suc, ◌≤◌, ◌<◌, eqb, length, get_or, false, List, ◌≡◌, Some, None}
use Rattle.std.proofs.Common.{true≢false, sym, ◌∙◌, arith}
use Rattle.std.proofs.Math.Option.{some}
use Rattle.std.proofs.Math.Path.{refl, ap, subst}
use Rattle.base.specs.Choose.{choose, by_test}
use Rattle.datagram.specs.Datagram.{told}
use Rattle.datagram.specs.Sound.{held_open}
use Rattle.datagram.specs.declared.Ask.{Ask}
use Rattle.datagram.specs.declared.Datagram.{Datagram}
use Rattle.datagram.specs.declared.Question.TheVariants as question
use Rattle.datagram.specs.declared.Question.{Question}
use Rattle.datagram.specs.declared.Reading.TheVariants as says
use Rattle.datagram.specs.declared.Step.{Step}
use Rattle.mask_reply.proofs.Leads.{mask-other}
use Rattle.opening_reply.proofs.Leads.{opened-other}
use Rattle.opening_reply.specs.Opening.{still, opened_step, opened_at, Opening}
use Rattle.opening_reply.specs.declared.Marked.{Marked}
use Rattle.receiving.specs.Laws.{made-sound}
use Rattle.receiving.specs.Receiving.{begin_of}
use Rattle.receiving.specs.declared.Kept.{Kept}
use Rattle.records.proofs.Leads.{read-other}
use Rattle.recv_keys.specs.Keeps.{found-epoch, marked-here, marked_other, marked-epoch}
use Rattle.recv_keys.specs.Keys.{no_entry, entry_at, find, marked, Found}
use Rattle.recv_keys.specs.Laws.{found-keyed}
use Rattle.recv_keys.specs.declared.RecvEpochEntry.{RecvEpochEntry}
use Rattle.recv_keys.specs.declared.RecvKeys.{RecvKeys}
use Rattle.window.proofs.Laws.{after, verdict-is, spent}
use Rattle.window.specs.Window.{verdict}
use Rattle.window.specs.declared.Verdict.TheVariants.{Fresh, Seen}
use Rattle.history_theorem.specs.Claim.{SameVerdicts, Moved, Turned, OtherLength}
use Rattle.history_theorem.proofs.Reading.{is_found, open_idle, open_masked, opened-is, use_down, uses_it, still-fresh}
use Rattle.history_theorem.specs.Receiver.{Sealed, Receiver, Out, turnedDown, fate_of, Use, unused, uses, use_of, accepts, verdict_by, verdict_of, Move, Stray, begun, finishes, read_out, mask_out, open_out, after_read, after_mask, after_open, use_in}
use Rattle.history_theorem.proofs.ReadLaws.{out_by, reads_out, masked_out}
use Rattle.history_theorem.proofs.Sound.{UnderWay, Sound}

-- ---- marking one number of one epoch

find-epochs : (l m : List RecvEpochEntry) (x n : ℕ) → ((j : ℕ) → j < n → (get_or l j no_entry).epoch ≡ (get_or m j no_entry).epoch) → find l x n ≡ find m x n
unfolding find
find-epochs l m x zero f = refl
find-epochs l m x (suc n) f =
    ap (λ (e : ℕ). choose (eqb e x) (Some n) (find l x n)) (f n (omega arith))
    ∙ ap (λ (r : Found). choose (eqb (get_or m n no_entry).epoch x) (Some n) r) (find-epochs l m x n (λ j h. f j (omega arith)))

module _ (k : RecvKeys) (e h n : ℕ) (long : length k.entries ≡ 5) (count : k.count ≤ 5) (f : find k.entries e k.count ≡ Some h) where
  within : h < k.count
  within = found-keyed k.entries e k.count h f

  find-marked : (x : ℕ) → find (marked k h n).entries x (marked k h n).count ≡ find k.entries x k.count
  unfolding marked
  find-marked x = find-epochs (marked k h n).entries k.entries x k.count (λ j l. marked-epoch k h n long count within j)

  other_at : (x j : ℕ) → (x ≡ e → ⊥) → (g : Found) → find k.entries x k.count ≡ g → verdict_by g (marked k h n) j ≡ verdict_by g k j
  other_at x j ne None q = refl
  other_at x j ne (Some m) q =
      ap (λ (r : RecvEpochEntry). some (verdict r.replay j))
      (marked_other k h n long count within m
      (λ z.
      ne
      (sym (found-epoch k.entries x k.count m q) ∙ ap (λ (v : ℕ). (entry_at k v).epoch) z ∙ found-epoch k.entries e k.count h f)))

  pub others_same : (x : ℕ) → (x ≡ e → ⊥) → (j : ℕ) → verdict_of (marked k h n) x j ≡ verdict_of k x j
  unfolding verdict_of
  others_same x ne j = ap (λ (g : Found). verdict_by g (marked k h n) j) (find-marked x) ∙ other_at x j ne _ refl

  -- a fresh number is seen once it is used
  pub now-seen : verdict (entry_at k h).replay n ≡ Fresh → verdict_of (marked k h n) e n ≡ some Seen
  unfolding verdict_of
  now-seen fresh =
      ap (λ (g : Found). verdict_by g (marked k h n) n) (find-marked e ∙ f)
      ∙ ap (λ (r : RecvEpochEntry). some (verdict r.replay n)) (marked-here k h n long count within)
      ∙ ap some (spent (entry_at k h).replay n (omega (arith, (after (entry_at k h).replay n).highest, ((verdict-is (entry_at k h).replay n Fresh).0 fresh).0)))

-- ---- the calls that read

abbrev pub move_by : ℕ → Use → RecvKeys → RecvKeys → Move
move_by s u k l = record { datagram = s; spends = u; before = k; behind = l }

pub same-moved : (s : ℕ) (u : Use) (k l : RecvKeys) → u ≡ unused → l ≡ k → Moved (move_by s u k l) u
same-moved s u k l p q =
    subst (λ v. Moved (move_by s v k l) v) (sym p) (λ e n. ap (λ (x : RecvKeys). verdict_of x e n) q)

pub moved-unused : (m : Move) (u : Use) → accepts u ≡ false → Moved m u → SameVerdicts m
moved-unused m unused e x = x
moved-unused m (uses k n) e x = absurd (true≢false e)

module _ (y : Receiver) (i : Sound y) (s : ℕ) where
  abbrev k : RecvKeys
  k = y.state.keys

  abbrev b : Datagram
  b = y.state.datagram

  abbrev d : List ℕ
  d = y.datagram

  pub begin_keys : (d : List ℕ) → (begun y d).state.keys ≡ k
  unfolding begun begin_of
  begin_keys d =
      by_test (λ (z : Receiver). z.state.keys ≡ k) (λ t. go) (λ t. go)
    where
      go : (begin_of y.state (length d)).state.keys ≡ k
      go =
          by_test (λ (r : Kept). r.state.keys ≡ k) (λ t. by_test (λ (r : Kept). r.state.keys ≡ k) (λ u. refl) (λ u. refl)) (λ t. refl)

  pub finish-keys : (finishes y).state.keys ≡ k
  finish-keys = refl

  pub read-keys : (sealed : ℕ → List Sealed) → (after_read y sealed).state.keys ≡ k
  unfolding after_read
  read-keys sealed = refl

  pub mask-keys : (m : List ℕ) → (after_mask y m).state.keys ≡ k
  unfolding after_mask
  mask-keys m = refl

  -- an opening reply that comes to m
  abbrev OpenMoved : Opening → Marked → Type 0
  OpenMoved p m =
      Moved (move_by s (use_of y.account.waits p (fate_of m.step.reading)) k m.keys) (use_of y.account.waits p (fate_of m.step.reading))

  refused-moved : (p : Opening) (m : Marked) → fate_of m.step.reading ≡ turnedDown → m.keys ≡ k → OpenMoved p m
  refused-moved p m f q =
      same-moved s (use_of y.account.waits p (fate_of m.step.reading)) k m.keys
      (ap (use_of y.account.waits p) f ∙ use_down y.account.waits p) q

  module _ (a : Ask) (n : ℕ) (q : b.question ≡ question.Opening a n) (z : UnderWay (question.Opening a n) b.at y.account.waits y.trial) (h : ℕ)
      (f : find k.entries a.epoch k.count ≡ Some h) where
    at_moved : (p : Opening) → OpenMoved p (opened_at h p k b a n d)
    unfolding opened_at
    at_moved None = same-moved s unused k k refl refl
    at_moved (Some len) =
        by_test (OpenMoved (Some len))
        (λ t.
        let long = i.made.long in
        let count = i.made.ready.keys.count in
        subst (λ u. Moved (move_by s u k (marked k h n)) u) (sym (uses_it y i a n q z len h f))
        (others_same k a.epoch h n long count f, now-seen k a.epoch h n long count f (still-fresh y i a n q z len h f)))
        (λ t. refused-moved (Some len) (still k (told b says.Reply)) refl refl)

  moved_by : (p : Opening) (q : Question) → b.question ≡ q → UnderWay q b.at y.account.waits y.trial → OpenMoved p (opened_step k b p d)
  moved_by p question.Nothing q z = subst (OpenMoved p) (sym (open_idle y i p q)) (refused-moved p (still k (told b says.Reply)) refl refl)
  moved_by p (question.Mask a) q z = subst (OpenMoved p) (sym (open_masked y i p a q)) (refused-moved p (still k (told b says.Reply)) refl refl)
  moved_by p (question.Opening a n) q z =
      is_found k a.epoch _ refl (held_open k b (made-sound y.state i.made) a n q).1.installed
      (λ h f. subst (OpenMoved p) (sym (opened-is y i a n q z p h f)) (at_moved a n q z h f p))

  pub open_moved : (p : Opening) → Moved (move_by s (use_in y p) k (after_open y p).state.keys) (use_in y p)
  unfolding after_open
  open_moved p = moved_by p b.question refl i.under

  -- ---- calls over bytes of another length

  abbrev stray_by : List ℕ → Out → Stray
  stray_by lent o = record { reading = o.reading; before = y.state; behind = o.state; lent = lent; left = o.datagram }

  other : (d : List ℕ) → OtherLength y d → length d ≡ b.size → ⊥
  other d ne e = ne (e ∙ sym i.whole)

  turned : (d : List ℕ) (t : Step) → t ≡ told b says.Reply → Turned (stray_by d (reads_out k t d))
  turned d t e = subst (λ x. Turned (stray_by d (reads_out k x d))) (sym e) (record { answer = refl; state = refl; bytes = refl })

  pub read-turned : (d : List ℕ) → OtherLength y d → Turned (stray_by d (read_out y.state d))
  read-turned d ne = turned d _ (read-other k b d (made-sound y.state i.made) (other d ne))

  pub mask-turned : (m d : List ℕ) → OtherLength y d → Turned (stray_by d (mask_out y.state m d))
  mask-turned m d ne =
      subst (λ p. Turned (stray_by d (masked_out k p))) (sym (mask-other k b m d (made-sound y.state i.made) (other d ne)))
      (record { answer = refl; state = refl; bytes = refl })

  pub open_turned : (p : Opening) (d : List ℕ) → OtherLength y d → Turned (stray_by d (open_out y.state p d))
  open_turned p d ne =
      subst (λ m. Turned (stray_by d (out_by m.keys m.step d))) (sym (opened-other k b p d (made-sound y.state i.made) (other d ne)))
      (record { answer = refl; state = refl; bytes = refl })
