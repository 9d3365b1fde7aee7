-- The least length of a protected part is the one given at the start, behind every list of calls. Assumes nothing.
use Rattle.std.specs.Prelude.{ℕ, List, [], ◌∷◌, ◌≡◌, Some, None}
use Rattle.std.proofs.Common.{⊎_elim, ap, ◌∙◌}
use Rattle.std.proofs.Math.Path.{refl}
use Rattle.base.specs.Choose.{by_test}
use Rattle.opening_reply.proofs.Keeps.{opened-effect}
use Rattle.opening_reply.specs.Keeps.{Marks}
use Rattle.opening_reply.specs.Opening.{opened_step, Opening}
use Rattle.recv_keys.specs.Keys.{find, installed, left, marked, Found}
use Rattle.recv_keys.specs.declared.RecvKeys.{RecvKeys}
use Rattle.receiving.specs.Calls.Call.{keying, removing, encrypting, releasing, beginning, reading, masking, opening}
use Rattle.receiving.specs.Calls.{Call, after, run}
use Rattle.receiving.specs.Receiving.{fresh_of, key_of, leaving, removed_by, remove_of, encrypt_of, release_of, begin_of}
use Rattle.receiving.specs.declared.Kept.{Kept}
use Rattle.receiving.specs.declared.Receiving.{Receiving}

abbrev pub least : Receiving → ℕ
least s = s.keys.min_protected

pub fresh-least : (min : ℕ) → least (fresh_of min).state ≡ min
unfolding fresh_of
fresh-least min = by_test (λ (k : Kept). least k.state ≡ min) (λ t. refl) (λ t. refl)

module _ (s : Receiving) where
  abbrev Same : Kept → Type 0
  Same k = least k.state ≡ least s

  key_least : (e : ℕ) (iv : List ℕ) → Same (key_of s e iv)
  unfolding key_of installed
  key_least e iv =
      by_test Same (λ t. by_test Same (λ u. refl) (λ u. by_test Same (λ v. refl) (λ v. by_test Same (λ w. refl) (λ w. refl)))) (λ t. refl)

  removed-least : (e : ℕ) (f : Found) → Same (removed_by f s e)
  unfolding removed_by leaving left
  removed-least e None = refl
  removed-least e (Some i) = by_test Same (λ t. refl) (λ t. refl)

  remove_least : (e : ℕ) → Same (remove_of s e)
  unfolding remove_of
  remove_least e = by_test Same (λ t. removed-least e (find s.keys.entries e s.keys.count)) (λ t. refl)

  flag-least : Same (encrypt_of s) × Same (release_of s)
  unfolding encrypt_of release_of
  flag-least = (by_test Same (λ t. refl) (λ t. refl), by_test Same (λ t. refl) (λ t. refl))

  begin_least : (n : ℕ) → Same (begin_of s n)
  unfolding begin_of
  begin_least n = by_test Same (λ t. by_test Same (λ u. refl) (λ u. refl)) (λ t. refl)

  marked-least : (i n : ℕ) → (marked s.keys i n).min_protected ≡ least s
  unfolding marked
  marked-least i n = refl

  opened-least : (o : Opening) (d : List ℕ) → (opened_step s.keys s.datagram o d).keys.min_protected ≡ least s
  opened-least o d =
      ⊎_elim (λ e. ap (λ (k : RecvKeys). k.min_protected) e)
      (λ (m : Marks s.keys s.datagram o _). ap (λ (k : RecvKeys). k.min_protected) m.keys ∙ marked-least m.place m.number)
      (opened-effect s.keys s.datagram o d).moves

  after-least : (c : Call) → least (after c s).state ≡ least s
  after-least (keying e iv) = key_least e iv
  after-least (removing e) = remove_least e
  after-least encrypting = flag-least.0
  after-least releasing = flag-least.1
  after-least (beginning n) = begin_least n
  after-least (reading d) = refl
  after-least (masking m d) = refl
  after-least (opening o d) = opened-least o d

pub run-least : (cs : List Call) (s : Receiving) → least (run cs s) ≡ least s
run-least [] s = refl
run-least (c ∷ cs) s = run-least cs (after c s).state ∙ after-least s c
