-- An opening reply keeps the ranges; where it is refused, 12 or 15, nothing changes; only a yes moves a window. Assumes nothing.
use Rattle.std.specs.Prelude.{ℕ, ◌-◌, ◌≤◌, length, true, List, ◌⊎◌, ◌≡◌, Some, None, Option}
use Rattle.std.proofs.Common.{eqb-true}
use Rattle.std.proofs.Math.Logic.{inl, inr}
use Rattle.std.proofs.Math.Path.{refl, ap}
use Rattle.base.specs.Choose.{by_test}
use Rattle.datagram.specs.Datagram.{question_sound, is_sound, moved, counted}
use Rattle.datagram.specs.Keeps.{Good, passed-keeps, counted-keeps, refused, never, Goes, counted-goes, end_fits}
use Rattle.datagram.specs.Sound.{Held, held-opening, Ready, ready, is-ready}
use Rattle.datagram.specs.declared.Ask.{Ask}
use Rattle.datagram.specs.declared.Datagram.{Datagram}
use Rattle.datagram.specs.declared.Question.TheVariants as question
use Rattle.datagram.specs.declared.Question.{Question}
use Rattle.incoming.specs.declared.Inner.{Inner}
use Rattle.recv_keys.specs.Keeps.{InRange, marked_in_range}
use Rattle.recv_keys.specs.Keys.{find, marked, Found}
use Rattle.recv_keys.specs.Laws.{found-keyed}
use Rattle.recv_keys.specs.declared.RecvKeys.{RecvKeys}
use Rattle.record.specs.Record.{tag_size}
use Rattle.opening_reply.specs.Opening.{typed, opened_at, opened_by, openings, opened_step, Opening}
use Rattle.opening_reply.specs.declared.Marked.{Marked}
use Rattle.opening_reply.specs.Keeps.{Marks}

-- the ranges hold behind an opening
abbrev pub Fine : Marked → Type 0
Fine m = Good m.keys m.step

module _ (k : RecvKeys) (b : Datagram) (a : Ask) (n : ℕ) (r : Ready k b) (h : Held k a (b.size - b.at)) (low : n ≤ 0xFFFF_FFFF_FFFF) where
  typed-keeps : (l : RecvKeys) → InRange l → (i : Option Inner) → Good l (typed b a n i)
  unfolding typed counted question_sound
  typed-keeps l g None =
      record { keys = g; size = r.size; at = end_fits k b a r h; readings = r.readings; question = refl }
  typed-keeps l g (Some held) =
      counted-keeps l (moved b b.at b.readings) _ _
      (record { keys = g; size = r.size; at = r.at; readings = r.readings; question = refl })
      (end_fits k b a r h)

  opened-at-keeps : (d : List ℕ) (o : Opening) (f : Found) → length k.entries ≡ 5 → find k.entries a.epoch k.count ≡ f
      → Fine (opened_by f o k b a n d)
  unfolding opened_by opened_at
  opened-at-keeps d o None long q = r
  opened-at-keeps d None (Some i) long q = passed-keeps k b _ r (end_fits k b a r h)
  opened-at-keeps d (Some len) (Some i) long q =
      by_test Fine
      (λ t.
      typed-keeps (marked k i n)
      (marked_in_range k i n long r.keys.count (found-keyed k.entries a.epoch k.count i q) low r.keys) _)
      (λ t. r)

openings_keep : (k : RecvKeys) (b : Datagram) (o : Opening) (d : List ℕ) (q : Question) → Ready k b → length k.entries ≡ 5
    → question_sound k q (b.size - b.at) ≡ true → Fine (openings q o k b d)
unfolding openings question_sound
openings_keep k b o d question.Nothing r long t = r
openings_keep k b o d (question.Mask a) r long t = r
openings_keep k b o d (question.Opening a n) r long t =
    let h = held-opening k a n _ t in opened-at-keeps k b a n r h.1 h.0 d o _ long refl

pub opened-keeps : (k : RecvKeys) (b : Datagram) (o : Opening) (d : List ℕ) → length k.entries ≡ 5 → is_sound k b ≡ true
    → is_sound (opened_step k b o d).keys (opened_step k b o d).step.datagram ≡ true
unfolding opened_step
opened-keeps k b o d long t =
    let r = ready k b t in
    is-ready _ _ (by_test Fine (λ u. by_test Fine (λ v. openings_keep k b o d b.question r long r.question) (λ v. r)) (λ u. r))

-- refused, the state is unchanged; else the keys are unchanged, or a number is marked
pub record Effect (k : RecvKeys) (b : Datagram) (o : Opening) (m : Marked) : Type 0 where
  pub stays : refused m.step.reading ≡ true → (m.keys ≡ k) × (m.step.datagram ≡ b)
  pub moves : (m.keys ≡ k) ⊎ Marks k b o m.keys

pub typed-goes : (b : Datagram) (a : Ask) (n : ℕ) (i : Option Inner) → Goes (typed b a n i)
unfolding typed
typed-goes b a n None = refl
typed-goes b a n (Some held) = counted-goes b _ _ refl

module _ (k : RecvKeys) (b : Datagram) (a : Ask) (n : ℕ) (d : List ℕ) (waits : b.question ≡ question.Opening a n) where
  opened-effect-at : (o : Opening) (f : Found) → find k.entries a.epoch k.count ≡ f → Effect k b o (opened_by f o k b a n d)
  unfolding opened_by opened_at
  opened-effect-at o None q = record { stays = λ t. (refl, refl); moves = inl refl }
  opened-effect-at None (Some i) q = record { stays = λ t. never refl t; moves = inl refl }
  opened-effect-at (Some len) (Some i) q =
      by_test (Effect k b (Some len))
      (λ t. record {
        stays = λ u. never (typed-goes b a n _) u;
        moves = inr
            (record {
              ask = a;
              number = n;
              place = i;
              waits = waits;
              found = q;
              said = ap Some (eqb-true len (a.length - tag_size) t);
              keys = refl;
            });
      })
      (λ t. record { stays = λ u. (refl, refl); moves = inl refl })

openings-effect : (k : RecvKeys) (b : Datagram) (o : Opening) (d : List ℕ) (q : Question) → b.question ≡ q → Effect k b o (openings q o k b d)
unfolding openings
openings-effect k b o d question.Nothing w = record { stays = λ t. (refl, refl); moves = inl refl }
openings-effect k b o d (question.Mask a) w = record { stays = λ t. (refl, refl); moves = inl refl }
openings-effect k b o d (question.Opening a n) w = opened-effect-at k b a n d w o _ refl

pub opened-effect : (k : RecvKeys) (b : Datagram) (o : Opening) (d : List ℕ) → Effect k b o (opened_step k b o d)
unfolding opened_step
opened-effect k b o d =
    by_test (Effect k b o)
    (λ t. by_test (Effect k b o) (λ u. openings-effect k b o d b.question refl) (λ u. record { stays = λ e. (refl, refl); moves = inl refl }))
    (λ t. record { stays = λ e. (refl, refl); moves = inl refl })
