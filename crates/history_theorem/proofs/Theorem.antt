-- The receiving half of demand 3 holds of every list of events. Assumes nothing.
use Rattle.std.specs.Prelude.{ℕ, ◌≤◌, ◌≡◌, refl}
use mathlib.Core.List.Memᴰ.{tail as there}
use mathlib.Core.List.{List, [], ◌∷◌, Memᴰ as Mem}
use Rattle.std.proofs.Common.{sym, subst}
use Rattle.datagram.specs.declared.Reading.TheVariants as says
use Rattle.history_theorem.specs.Account.{upd, nothing}
use Rattle.history_theorem.proofs.Calls.{Fine, key_fine, key_told, encrypt_fine, encrypt_told, release_fine, release_told, begin_fine, begin_told, finish-fine, finish-ends, remove_fine, remove_told, write_sound, unchanged, new-sound}
use Rattle.history_theorem.specs.Claim.{Masks, FairCall, Moved, Turned, Received}
use Rattle.history_theorem.proofs.Direction.{
  Shaped,
  AsSealed,
  due-known,
  ending_opened,
  ending_told,
  Trials,
  trials_grow,
  as_sealed-grows,
  leaves-trials,
  leaves-handed,
  write_trials,
  read-trials,
  mask-trials,
  open_trials,
  open_sealed,
}
use Rattle.history_theorem.specs.Half.{Shape, Event, here·, far·, Half, fresh_half, step, run, Fair, Honest, EveryList}
use Rattle.history_theorem.proofs.Lists.{upd-by, some≢none, mem-by}
use Rattle.history_theorem.proofs.Reading.{rest-unasked, read-sound, mask-sound, open_sound, read-hands, mask-hands}
use Rattle.history_theorem.specs.Receiver.{
  Sealed,
  Receiver,
  Move,
  Stray,
  Told,
  finishes,
  read_out,
  Inbound,
  new_inbound,
  Call,
  key·,
  remove·,
  encrypt·,
  release·,
  begin·,
  read·,
  mask·,
  write·,
  open·,
  read_over·,
  mask_over·,
  open_over·,
  finish·,
  unused,
  does,
}
use Rattle.history_theorem.proofs.Sound.{Sound}
use Rattle.history_theorem.proofs.Verdicts.{same-moved, moved-unused, begin_keys, finish-keys, read-keys, mask-keys, open_moved, read-turned, mask-turned, open_turned}

-- what holds between a receiving end and the records that the far end sealed
pub record Link (masks : Masks) (sealed : ℕ → List Sealed) (i : Inbound) : Type 0 where
  pub shaped : Shaped masks sealed
  pub sound : Sound i.into
  pub as_sealed : AsSealed sealed i.into.handed
  pub trials : Trials sealed i.into
  pub moves : (m : Move) → Mem m i.moves → Moved m m.spends
  pub strays : (t : Stray) → Mem t i.strays → Turned t
  pub told : (a : Told) → Mem a i.told → a.answer ≡ a.owed

more-moves : (m : Move) (ms : List Move) → Moved m m.spends → ((k : Move) → Mem k ms → Moved k k.spends)
    → (k : Move) → Mem k (m ∷ ms) → Moved k k.spends
more-moves m ms new old k o = mem-by o (λ (p : k ≡ m). subst (λ v. Moved v v.spends) (sym p) new) (λ o'. old k o')

more-strays : (t : Stray) (ts : List Stray) → Turned t → ((k : Stray) → Mem k ts → Turned k) → (k : Stray) → Mem k (t ∷ ts) → Turned k
more-strays t ts new old k o = mem-by o (λ (p : k ≡ t). subst Turned (sym p) new) (λ o'. old k o')

more-told : (t : Told) (ts : List Told) → t.answer ≡ t.owed → ((a : Told) → Mem a ts → a.answer ≡ a.owed)
    → (a : Told) → Mem a (t ∷ ts) → a.answer ≡ a.owed
more-told t ts new old a o = mem-by o (λ (p : a ≡ t). subst (λ v. v.answer ≡ v.owed) (sym p) new) (λ o'. old a o')

module _ (masks : Masks) (sealed : ℕ → List Sealed) (i : Inbound) (l : Link masks sealed i) where
  -- ---- the far end seals a record

  pub far-keeps : (e : ℕ) (r : Sealed) → Shape masks e r → Link masks (upd sealed e (r ∷ sealed e)) i
  far-keeps e r shape = record {
    shaped = λ k q.
        upd-by sealed e (r ∷ sealed e) (λ k s. Mem q s → Shape masks k q) k
        (λ same m.
        subst (λ (x : ℕ). Shape masks x q) (sym same) (mem-by m (λ (p : q ≡ r). subst (Shape masks e) (sym p) shape) (λ o. l.shaped e q o)))
        (λ other m. l.shaped k q m);
    sound = l.sound;
    as_sealed = as_sealed-grows sealed (upd sealed e (r ∷ sealed e)) more i.into.handed l.as_sealed;
    trials = trials_grow sealed (upd sealed e (r ∷ sealed e)) more i.into l.trials;
    moves = l.moves;
    strays = l.strays;
    told = l.told;
  }
    where
      more : (k : ℕ) (q : Sealed) → Mem q (sealed k) → Mem q (upd sealed e (r ∷ sealed e) k)
      more k q =
          upd-by sealed e (r ∷ sealed e) (λ k s. Mem q (sealed k) → Mem q s) k
          (λ same m. there (subst (λ (x : ℕ). Mem q (sealed x)) same m)) (λ other m. m)

  -- ---- a call at this end

  abbrev y : Receiver
  y = i.into

  -- one that reads nothing
  fine-keeps : (j : Inbound) → Fine i.into j.into → ((m : Move) → Mem m j.moves → Moved m m.spends)
      → ((t : Stray) → Mem t j.strays → Turned t) → ((a : Told) → Mem a j.told → a.answer ≡ a.owed) → Link masks sealed j
  fine-keeps j f ms ts ns = record {
    shaped = l.shaped;
    sound = f.0;
    as_sealed = subst (AsSealed sealed) (sym (leaves-handed f.1)) l.as_sealed;
    trials = leaves-trials sealed i.into j.into f.1 l.trials;
    moves = ms;
    strays = ts;
    told = ns;
  }

  pub call_keeps : (c : Call) → FairCall masks sealed i c → Link masks sealed (does sealed i c)
  call_keeps (key· k iv) h =
      fine-keeps _ (key_fine y l.sound k iv) l.moves l.strays (more-told _ i.told (key_told y l.sound k iv) l.told)
  call_keeps (remove· k) h =
      fine-keeps _ (remove_fine y l.sound k) l.moves l.strays (more-told _ i.told (remove_told y l.sound k) l.told)
  call_keeps encrypt· h =
      fine-keeps _ (encrypt_fine y l.sound) l.moves l.strays (more-told _ i.told (encrypt_told y l.sound) l.told)
  call_keeps release· h =
      fine-keeps _ (release_fine y l.sound) l.moves l.strays (more-told _ i.told (release_told y l.sound) l.told)
  call_keeps (begin· d) h =
      fine-keeps _ (begin_fine y l.sound d)
      (more-moves _ i.moves (same-moved 0 unused _ _ refl (begin_keys y l.sound 0 d)) l.moves) l.strays
      (more-told _ i.told (begin_told y l.sound d) l.told)
  call_keeps read· h = record {
    shaped = l.shaped;
    sound = read-sound y l.sound sealed;
    as_sealed = subst (AsSealed sealed) (sym (read-hands y l.sound sealed)) l.as_sealed;
    trials = read-trials masks sealed l.shaped y l.sound l.trials;
    moves = more-moves _ i.moves (same-moved 0 unused _ _ refl (read-keys y l.sound 0 sealed)) l.moves;
    strays = l.strays;
    told = l.told;
  }
  call_keeps (mask· m) h = record {
    shaped = l.shaped;
    sound = mask-sound y l.sound m;
    as_sealed = subst (AsSealed sealed) (sym (mask-hands y l.sound m)) l.as_sealed;
    trials = mask-trials masks sealed l.shaped y l.sound l.trials m h;
    moves = more-moves _ i.moves (same-moved 0 unused _ _ refl (mask-keys y l.sound 0 m)) l.moves;
    strays = l.strays;
    told = l.told;
  }
  call_keeps (write· p) h = record {
    shaped = l.shaped;
    sound = write_sound y l.sound p;
    as_sealed = l.as_sealed;
    trials = write_trials sealed y l.trials p;
    moves = l.moves;
    strays = l.strays;
    told = l.told;
  }
  call_keeps (open· p) h = record {
    shaped = l.shaped;
    sound = open_sound y l.sound p;
    as_sealed = open_sealed masks sealed l.shaped y l.sound l.as_sealed p h;
    trials = open_trials masks sealed l.shaped y l.sound l.trials p h;
    moves = more-moves _ i.moves (open_moved y l.sound i.serial p) l.moves;
    strays = l.strays;
    told = l.told;
  }
  call_keeps (read_over· d) h =
      let t = read-turned y l.sound 0 d h in
      fine-keeps _ (unchanged y l.sound _ t.state) l.moves (more-strays _ i.strays t l.strays) l.told
  call_keeps (mask_over· m d) h =
      let t = mask-turned y l.sound 0 m d h in
      fine-keeps _ (unchanged y l.sound _ t.state) l.moves (more-strays _ i.strays t l.strays) l.told
  call_keeps (open_over· p d) h =
      let t = open_turned y l.sound 0 p d h in
      fine-keeps _ (unchanged y l.sound _ t.state) l.moves (more-strays _ i.strays t l.strays) l.told
  call_keeps finish· h =
      fine-keeps _ (finish-fine y l.sound) (more-moves _ i.moves (same-moved 0 unused _ _ refl (finish-keys y l.sound 0)) l.moves) l.strays
      l.told

  -- ---- what follows

  pub received : (e : ℕ) → Received sealed i e
  received e = record {
    once = l.sound.hands.once e;
    as_sealed = l.as_sealed e;
    none-left-out = λ d m r due. l.trials.handed d m e r due;
    due-opened = λ d m r due. ending_opened _ e r _ _ due (l.trials.says d m e r (due-known _ e r due));
    late-told = λ d m r known. ending_told _ e r _ _ (l.trials.says d m e r known);
    judged = l.sound.judged;
    moved_nothing = λ k none-accepted m o z. moved-unused m m.spends (none-accepted m o z) (l.moves m o);
    each_call = l.moves;
    real-readings = l.sound.real;
    ends-right = l.sound.stops;
    plain-read = λ d m. (l.sound.said d m).plain;
    unopened-read = λ d m. (l.sound.said d m).unopened;
    read-at-once = λ t p. ((l.sound.later t p says.End).plain, (l.sound.later t p says.End).unopened);
    shows-arrived = l.sound.shows;
    answered = l.sound.proper;
    nonces = l.sound.nonces;
    spared = l.sound.spared;
    as_arrived = λ w. sym (rest-unasked y l.sound w);
    lost-removed = l.sound.lost;
    others-turned = l.strays;
    told-right = l.told;
  }

-- ---- a fresh end, and a list of events

pub new-link : (masks : Masks) (min : ℕ) → min ≤ 17 → Link masks (λ e. []) (new_inbound min)
new-link masks min h = record {
  shaped = λ e r m. elim m [ ];
  sound = new-sound min h;
  as_sealed = λ e x m. elim m [ ];
  trials = record { under = λ t q. some≢none (sym q); says = λ d m. elim m [ ]; handed = λ d m. elim m [ ] };
  moves = λ m o. elim o [ ];
  strays = λ t o. elim o [ ];
  told = λ a o. elim o [ ];
}

step_keeps : (masks : Masks) (w : Half) (v : Event) → Link masks w.sealed w.end → Fair masks w v
    → Link masks (step w v).sealed (step w v).end
step_keeps masks w (here· c) l h = call_keeps masks w.sealed w.end l c h
step_keeps masks w (far· e r) l h = far-keeps masks w.sealed w.end l e r h

run-keeps : (masks : Masks) (w : Half) (vs : List Event) → Link masks w.sealed w.end → Honest masks w vs
    → Link masks (run w vs).sealed (run w vs).end
run-keeps masks w [] l h = l
run-keeps masks w (v ∷ vs) l h = run-keeps masks (step w v) vs (step_keeps masks w v l h.0) h.1

-- the end that a list of events leaves
listed : (min : ℕ) → min ≤ 17 → (masks : Masks) (vs : List Event) → Honest masks (fresh_half min) vs
    → Link masks (run (fresh_half min) vs).sealed (run (fresh_half min) vs).end
listed min h masks vs honest = run-keeps masks (fresh_half min) vs (new-link masks min h) honest

-- every list of events
pub every_list : EveryList
every_list min h masks vs honest e =
    received masks (run (fresh_half min) vs).sealed (run (fresh_half min) vs).end (listed min h masks vs honest) e

-- and behind every list: where the host was shown no question and leaves the rest of the datagram, the next read finds the end
pub finish-ends-all : (min : ℕ) → min ≤ 17 → (masks : Masks) (vs : List Event) → Honest masks (fresh_half min) vs
    → (run (fresh_half min) vs).end.into.account.waits ≡ nothing
    → let z : Receiver = finishes (run (fresh_half min) vs).end.into in (read_out z.state z.datagram).reading ≡ says.End
finish-ends-all min h masks vs honest w = finish-ends (run (fresh_half min) vs).end.into (listed min h masks vs honest).sound w
