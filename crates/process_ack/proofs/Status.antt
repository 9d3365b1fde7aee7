-- How many saved records an ACK marks: what it tells a host that resends. Assumes nothing.
use Rattle.std.specs.Prelude.{true, List, ◌≡◌, refl, ℕ, zero, suc, ◌+◌, ◌-◌, ◌≤◌, ◌<◌, ltb, length}
use Rattle.std.proofs.lemmas.Bool.{false≢true}
use Rattle.std.proofs.Common.{⊎_elim, ◌∙◌, get_or-set_other, get_or-set_same}
use Rattle.std.proofs.Math.Path.{sym, ap}
use native.Mathlib.Omega.{arith}
use Rattle.std.proofs.Math.ListN.{get_or-eq_default}
use Rattle.base.specs.Choose.{choose, if_true, if_false, by_test, test_cases, eq-or_ne, lt-or_ge}
use Rattle.flight.specs.declared.Entry.{Entry}
use Rattle.flight.specs.declared.Flight.{Flight}
use Rattle.flight.specs.Flight.{no_entry, entry_at}
use Rattle.flight.specs.Status.{unmarked_after}
use Rattle.flight.specs.declared.Acted.{Acted}
use Rattle.process_ack.specs.Ack.{is_formed, pairs_in, is_acked, with_mark, mark_at, marks_after, emptied, acked}
use Rattle.process_ack.proofs.Ack.{marks-saved}
use Rattle.process_ack.specs.Status.{newly_marked}

-- ---- laws

-- only the entries are counted
pub unmarked-same : (f g : Flight) → f.entries ≡ g.entries → (n : ℕ) → unmarked_after f n ≡ unmarked_after g n
unfolding unmarked_after
unmarked-same f g e zero = refl
unmarked-same f g e (suc n) = rw (unmarked-same f g e n, e)

-- a flight that empties keeps its entries
emptied-entries : (f : Flight) → (emptied f).entries ≡ f.entries
unfolding emptied
emptied-entries f = by_test (λ (x : Flight). x.entries ≡ f.entries) (λ a. by_test (λ (x : Flight). x.entries ≡ f.entries) (λ b. refl) (λ b. refl)) (λ a. refl)

-- what is marked is a saved record
marked-there : (f : Flight) (i : ℕ) → (entry_at f i).marked ≡ true → i < length f.entries
marked-there f i h =
    ⊎_elim (λ (l : i < length f.entries). l)
    (λ l. absurd (false≢true (ap (λ (e : Entry). e.marked) (sym (get_or-eq_default f.entries no_entry l)) ∙ h))) (lt-or_ge i (length f.entries))

-- and stays marked
pub stays-marked : (d : List ℕ) (n : ℕ) (f : Flight) (k i : ℕ) → (entry_at f i).marked ≡ true → (entry_at (marks_after d n f k) i).marked ≡ true
unfolding marks_after mark_at with_mark is_acked
stays-marked d n f zero i h = h
stays-marked d n f (suc k) i h =
    let g = marks_after d n f k in
    let o = stays-marked d n f k i h in
    ⊎_elim
    (λ (z : i ≡ k).
    ap (λ (j : ℕ). (entry_at (mark_at g k (is_acked d n f.numbers k (entry_at f k))) j).marked) z
    ∙ ap (λ (e : Entry). e.marked) (get_or-set_same g.entries k (with_mark (entry_at g k) (is_acked d n f.numbers k (entry_at f k))) no_entry (marked-there g k (ap (λ (j : ℕ). (entry_at g j).marked) (sym z) ∙ o)))
    ∙ if_true _ _ (ap (λ (j : ℕ). (entry_at f j).marked) (sym z) ∙ h))
    (λ z. ap (λ (e : Entry). e.marked) (get_or-set_other g.entries k i (with_mark (entry_at g k) (is_acked d n f.numbers k (entry_at f k))) no_entry z) ∙ o)
    (eq-or_ne i k)

-- so that no more are unmarked
fewer : (f g : Flight) → ((i : ℕ) → (entry_at f i).marked ≡ true → (entry_at g i).marked ≡ true) → (n : ℕ) → unmarked_after g n ≤ unmarked_after f n
unfolding unmarked_after
fewer f g h zero = omega arith
fewer f g h (suc n) =
    let o = fewer f g h n in
    test_cases (entry_at f n).marked
    (λ m. omega (arith, o, if_true {A = ℕ} {t = (entry_at f n).marked} 0 1 m, if_true {A = ℕ} {t = (entry_at g n).marked} 0 1 (h n m)))
    (λ m. let z = if_false {A = ℕ} {t = (entry_at f n).marked} 0 1 m in
    by_test (λ (k : ℕ). unmarked_after g n + k ≤ unmarked_after f n + choose (entry_at f n).marked 0 1) (λ q. omega arith) (λ q. omega arith))

module _ (f : Flight) (d : List ℕ) where
  -- the entries behind an ACK are those marked, also where the flight empties
  pub newly_behind : newly_marked f d ≡ unmarked_after f f.saved - unmarked_after (acked f d).flight f.saved
  unfolding newly_marked acked
  newly_behind =
      let none : unmarked_after f f.saved - unmarked_after f f.saved ≡ 0 = omega arith in
      test_cases (ltb 12 f.saved)
      (λ t. if_true _ _ t ∙ sym none ∙ ap (λ (x : Acted). unmarked_after f f.saved - unmarked_after x.flight f.saved) (sym (if_true _ _ t)))
      (λ t. if_false _ _ t ∙ test_cases (is_formed d)
      (λ o.
      if_true _ _ o
      ∙ ap (λ (k : ℕ). unmarked_after f f.saved - unmarked_after (marks_after d (pairs_in d) f f.saved) k) (marks-saved d (pairs_in d) f f.saved)
      ∙ ap (λ (k : ℕ). unmarked_after f f.saved - k)
      (sym (unmarked-same _ _ (emptied-entries (marks_after d (pairs_in d) f f.saved)) f.saved) ∙ ap (λ (g : Flight). unmarked_after g f.saved) (sym (if_true _ _ o))))
      (λ o. if_false _ _ o ∙ sym none ∙ ap (λ (g : Flight). unmarked_after f f.saved - unmarked_after g f.saved) (sym (if_false _ _ o)))
      ∙ ap (λ (x : Acted). unmarked_after f f.saved - unmarked_after x.flight f.saved) (sym (if_false _ _ t)))

  pub fewer-behind : unmarked_after (acked f d).flight f.saved ≤ unmarked_after f f.saved
  unfolding acked
  fewer-behind =
      by_test (λ (x : Acted). unmarked_after x.flight f.saved ≤ unmarked_after f f.saved) (λ t. omega arith)
      (λ t. by_test (λ (g : Flight). unmarked_after g f.saved ≤ unmarked_after f f.saved)
      (λ o.
      let g = marks_after d (pairs_in d) f f.saved in
      let e = unmarked-same (emptied g) g (emptied-entries g) f.saved in
      let m = fewer f g (stays-marked d (pairs_in d) f f.saved) f.saved in
      omega (arith, e, m))
      (λ o. omega arith))

  -- an ACK saves nothing
  pub saved-behind : (acked f d).flight.saved ≤ f.saved
  unfolding acked emptied
  saved-behind =
      by_test (λ (x : Acted). x.flight.saved ≤ f.saved) (λ t. omega arith)
      (λ t. by_test (λ (g : Flight). g.saved ≤ f.saved)
      (λ o.
      let e = marks-saved d (pairs_in d) f f.saved in
      by_test (λ (g : Flight). g.saved ≤ f.saved) (λ a. by_test (λ (g : Flight). g.saved ≤ f.saved) (λ b. omega arith) (λ b. omega arith)) (λ a. omega arith))
      (λ o. omega arith))
