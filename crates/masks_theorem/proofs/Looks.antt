-- Some calls at one of two hosts: what crate hosts_theorem says of each, call by call. Assumes nothing.
use Rattle.std.specs.Prelude.{List, [], ◌∷◌, ◌++◌, ◌≡◌, refl}
use Rattle.std.proofs.Common.{sym, subst}
use Rattle.history_theorem.specs.Claim.{Masks}
use Rattle.history_theorem.proofs.Sound.{Sound}
use Rattle.ends_theorem.proofs.Matches.{Matches}
use Rattle.ends_theorem.proofs.Theorem.{Good, run-keeps}
use Rattle.ends_theorem.proofs.Sends.{Sends}
use Rattle.ends_theorem.specs.World.{Side, post, gateway, far}
use Rattle.hosts_theorem.specs.Log.{Host, Act, Made, behind}
use Rattle.hosts_theorem.specs.Claim.{Hosts, CCall, put, after, runs, AllMade, Stands, deeds_of, events_of, Owed, FairDeeds, AllFair, sight_of}
use Rattle.hosts_theorem.proofs.Theorem.{Seen, all_seen}
use Rattle.masks_theorem.specs.Hosts.{at}

-- ---- two hosts by one of them, h, and the far one, f

abbrev pub pair_of : Side → Host → Host → Hosts
pair_of post f h post = h
pair_of post f h gateway = f
pair_of gateway f h post = f
pair_of gateway f h gateway = h

as_pair : (s : Side) (hs : Hosts) (t : Side) → hs t ≡ pair_of s (hs (far s)) (hs s) t
as_pair post hs post = refl
as_pair post hs gateway = refl
as_pair gateway hs post = refl
as_pair gateway hs gateway = refl

put-pair : (s : Side) (f h x : Host) (t : Side) → put s x (pair_of s f h) t ≡ pair_of s f x t
put-pair post f h x post = refl
put-pair post f h x gateway = refl
put-pair gateway f h x post = refl
put-pair gateway f h x gateway = refl

-- ---- some calls at h

abbrev pub behind_all : Host → Host → List Act → Host
behind_all f h [] = h
behind_all f h (a ∷ rest) = behind_all f (behind f h a) rest

abbrev pub MadeAll : Host → Host → List Act → Type 0
MadeAll f h [] = Unit {0}
MadeAll f h (a ∷ rest) = Made h a × MadeAll f (behind f h a) rest

pub made_at : (s : Side) (hs : Hosts) (acts : List Act) → MadeAll (hs (far s)) (hs s) acts → AllMade hs (at s acts)
made_at post hs [] m = tt
made_at post hs (a ∷ rest) m = (m.0, made_at post (after hs (record { side = post; act = a })) rest m.1)
made_at gateway hs [] m = tt
made_at gateway hs (a ∷ rest) m = (m.0, made_at gateway (after hs (record { side = gateway; act = a })) rest m.1)

pub runs_own : (s : Side) (hs : Hosts) (acts : List Act) → runs hs (at s acts) s ≡ behind_all (hs (far s)) (hs s) acts
runs_own post hs [] = refl
runs_own post hs (a ∷ rest) = runs_own post (after hs (record { side = post; act = a })) rest
runs_own gateway hs [] = refl
runs_own gateway hs (a ∷ rest) = runs_own gateway (after hs (record { side = gateway; act = a })) rest

pub runs-far : (s : Side) (hs : Hosts) (acts : List Act) → runs hs (at s acts) (far s) ≡ hs (far s)
runs-far post hs [] = refl
runs-far post hs (a ∷ rest) = runs-far post (after hs (record { side = post; act = a })) rest
runs-far gateway hs [] = refl
runs-far gateway hs (a ∷ rest) = runs-far gateway (after hs (record { side = gateway; act = a })) rest

pub made-both : (hs : Hosts) (us vs : List CCall) → AllMade hs us → AllMade (runs hs us) vs → AllMade hs (us ++ vs)
made-both hs [] vs m n = n
made-both hs (u ∷ us) vs m n = (m.0, made-both (after hs u) us vs m.1 n)

module _ (masks : Side → Masks) where
  abbrev pub FairAll : Side → Host → Host → List Act → Type 0
  FairAll s f h [] = Unit {0}
  FairAll s f h (a ∷ rest) = FairDeeds masks s f.seen h.seen (deeds_of a) × FairAll s f (behind f h a) rest

  pub fair-at : (s : Side) (hs : Hosts) (acts : List Act) → FairAll s (hs (far s)) (hs s) acts → AllFair masks hs (at s acts)
  fair-at post hs [] m = tt
  fair-at post hs (a ∷ rest) m = (m.0, fair-at post (after hs (record { side = post; act = a })) rest m.1)
  fair-at gateway hs [] m = tt
  fair-at gateway hs (a ∷ rest) m = (m.0, fair-at gateway (after hs (record { side = gateway; act = a })) rest m.1)

  pub fair-both : (hs : Hosts) (us vs : List CCall) → AllFair masks hs us → AllFair masks (runs hs us) vs → AllFair masks hs (us ++ vs)
  fair-both hs [] vs m n = n
  fair-both hs (u ∷ us) vs m n = (m.0, fair-both (after hs u) us vs m.1 n)

  -- ---- what holds of both hosts

  pub record Well (hs : Hosts) : Type 0 where
    pub stands : (s : Side) → Stands (hs s)
    pub good : Good masks (sight_of hs)

  -- it holds behind a list of calls
  pub well-behind : (hs : Hosts) (cs : List CCall) → Well hs → AllMade hs cs → AllFair masks hs cs → Seen masks hs cs × Well (runs hs cs)
  well-behind hs cs w m h =
      let seen = all_seen masks hs cs w.stands w.good m h in (
        seen,
        record { stands = seen.stands; good = subst (Good masks) (sym seen.agrees) (run-keeps masks (sight_of hs) (events_of cs) w.good seen.honest) },
      )

  pub well-pair : (s : Side) (hs : Hosts) → Well hs → Well (pair_of s (hs (far s)) (hs s))
  well-pair s hs w = subst Well (λ i t. as_pair s hs t i) w

  -- one call at h: it is answered as owed, and both hold behind it
  pub looks : (s : Side) (f h : Host) → Well (pair_of s f h) → (a : Act) → Made h a → FairDeeds masks s f.seen h.seen (deeds_of a)
      → Owed h a × Well (pair_of s f (behind f h a))
  looks post f h w a m g =
      let r = well-behind (pair_of post f h) (record { side = post; act = a } ∷ []) w (m, tt) (g, tt) in
      (r.0.owed.0, subst Well (λ i t. put-pair post f h (behind f h a) t i) r.1)
  looks gateway f h w a m g =
      let r = well-behind (pair_of gateway f h) (record { side = gateway; act = a } ∷ []) w (m, tt) (g, tt) in
      (r.0.owed.0, subst Well (λ i t. put-pair gateway f h (behind f h a) t i) r.1)

  -- what holds of h
  pub stands-own : (s : Side) (f h : Host) → Well (pair_of s f h) → Stands h
  stands-own post f h w = w.stands post
  stands-own gateway f h w = w.stands gateway

  pub sound-own : (s : Side) (f h : Host) → Well (pair_of s f h) → Sound h.seen.into.into
  sound-own post f h w = (w.good.link post).sound
  sound-own gateway f h w = (w.good.link gateway).sound

  pub sends-own : (s : Side) (f h : Host) → Well (pair_of s f h) → Sends (masks s) h.seen.out
  sends-own post f h w = w.good.out post
  sends-own gateway f h w = w.good.out gateway

  pub matches-own : (s : Side) (f h : Host) → Well (pair_of s f h) → Matches h.seen.out.stores h.seen.ledger
  matches-own post f h w = w.good.matches post
  matches-own gateway f h w = w.good.matches gateway
