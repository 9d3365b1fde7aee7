-- Calls that mask keys do not change leave the epochs keyed, ask no mask, and leave the application epoch to send in. Assumes nothing.
use Rattle.opening_reply.specs.Opening.{Opening}
use Rattle.std.specs.Prelude.{ℕ, zero, suc, ◌+◌, length, List, [], ◌∷◌, ◌≡◌, refl, Some, None}
use Rattle.std.proofs.Common.{leb-true, ⊎_elim, sym, ap, ◌∙◌, arith}
use Rattle.std.proofs.Math.Option.{Option, none, some}
use Rattle.base.specs.Choose.{choose, by_test, eq-or_ne}
use Rattle.datagram.specs.declared.Reading.TheVariants as says
use Rattle.datagram.specs.declared.Reading.{Reading}
use Rattle.recv_calls.specs.Flat.{opening_of}
use Rattle.waiting_laws.specs.Calls.{SendCall, key_send·, send·, save·, message·, begin_flight·, resend·, note·, send_ack·, ack·, fill·, sealed·, take·}
use Rattle.history_theorem.specs.Account.{tag_size, Shown, nothing, a_mask, an_opening, Account}
use Rattle.history_theorem.specs.Claim.{Proper, Refused}
use Rattle.history_theorem.specs.Receiver.{Trial, Inbound, Fate, turnedDown, underway, settled, fate_of, question_in, settled_at, next_account, leaves_rest, a_mask_reply, an_open_reply}
use Rattle.ends_theorem.specs.Ledger.{Kept, Ledger, Going, lays, saves, saves_on, pieces, posted, sends_again, passes, again, resent, closes, with_saved, acked_by, acking, leaves, after}
use Rattle.ends_theorem.specs.World.{End}
use Rattle.hosts_theorem.specs.Memory as inner
use Rattle.hosts_theorem.specs.Log.{reading_of, send_of, Host, Act, inward, husk_sending_sealing, husk_flight_status, husk_sending_status, outward, outward_over, host_seals, husk_assembly_begin, husk_assembly_take, husk_receiving_classify, husk_receiving_classify_over, behind}
use Rattle.hosts_theorem.specs.Claim.{Owed}
use Rattle.masks_theorem.specs.Hosts.{Other}

-- ---- a reading call

abbrev pub NotMask : Reading → Type 0
NotMask r = (k s : ℕ) → r ≡ says.Mask k s → ⊥

-- b behind, a before: the same epochs are keyed, and a mask that is asked was asked before
pub record Quiet (a b : Account) : Type 0 where
  pub keyed : b.keyed ≡ a.keyed
  pub asked : (e p : ℕ) → b.waits ≡ a_mask e p → a.waits ≡ a_mask e p

pub quiet_same : (a : Account) → Quiet a a
quiet_same a = record { keyed = refl; asked = λ e p z. z }

not_asked : {B : Type 0} {e p : ℕ} → nothing ≡ a_mask e p → B
not_asked z = let q : ◌≡◌ {A = ℕ} 0 1 = cc in absurd (omega arith)

not_opening : {B : Type 0} {e p k n at : ℕ} {head body : List ℕ} → an_opening k n at head body ≡ a_mask e p → B
not_opening z = let q : ◌≡◌ {A = ℕ} 0 1 = cc in absurd (omega arith)

-- settled, nothing waits
settled-keyed : (a : Account) (r : Reading) (size : ℕ) (t : Option Trial) → (settled_at a r size t).keyed ≡ a.keyed
settled-keyed a r size none = refl
settled-keyed a r size (some t) = refl

settled-waits : (a : Account) (r : Reading) (size : ℕ) (t : Option Trial) → (settled_at a r size t).waits ≡ nothing
settled-waits a r size none = refl
settled-waits a r size (some t) = refl

settled-quiet : (a : Account) (r : Reading) (size : ℕ) (t : Option Trial) → Quiet a (settled_at a r size t)
settled-quiet a r size t = record { keyed = settled-keyed a r size t; asked = λ e p z. not_asked (sym (settled-waits a r size t) ∙ z) }

-- any reading call leaves the epochs keyed
pub next-keyed : (f : Fate) (a : Account) (r : Reading) (size : ℕ) (t : Option Trial) (w : Shown) → (next_account f a r size t w).keyed ≡ a.keyed
next-keyed turnedDown a r size t w = refl
next-keyed underway a r size t w = refl
next-keyed settled a r size t w = settled-keyed a r size t

module _ (a : Account) (size : ℕ) (t : Option Trial) (d : List ℕ) where
  abbrev behind_reply : Reading → Account
  behind_reply r = next_account (fate_of r) a r size t (question_in r d)

  -- an answer that asks no mask
  pub next-quiet : (r : Reading) → NotMask r → Quiet a (behind_reply r)
  next-quiet says.Setting n = quiet_same a
  next-quiet says.Reply n = quiet_same a
  next-quiet (says.Mask e s) n = absurd (n e s refl)
  next-quiet (says.Opening e k s h l) n = record { keyed = refl; asked = λ x p z. not_opening z }
  next-quiet says.End n = settled-quiet a says.End size t
  next-quiet says.Incomplete n = settled-quiet a says.Incomplete size t
  next-quiet says.TooMany n = settled-quiet a says.TooMany size t
  next-quiet (says.Dropped r) n = settled-quiet a (says.Dropped r) size t
  next-quiet (says.Plaintext k m s l) n = settled-quiet a (says.Plaintext k m s l) size t
  next-quiet (says.Unopened b m s l) n = settled-quiet a (says.Unopened b m s l) size t
  next-quiet (says.Opened e m k s l) n = settled-quiet a (says.Opened e m k s l) size t

  -- and is no refusal: no mask is asked behind it
  pub next-settles : (r : Reading) → NotMask r → (Refused r → ⊥) → (e p : ℕ) → (behind_reply r).waits ≡ a_mask e p → ⊥
  next-settles says.Setting n u = absurd (u refl)
  next-settles says.Reply n u = absurd (u refl)
  next-settles (says.Mask e s) n u = absurd (n e s refl)
  next-settles (says.Opening e k s h l) n u = λ x p z. not_opening z
  next-settles says.End n u = λ x p z. not_asked (sym (settled-waits a says.End size t) ∙ z)
  next-settles says.Incomplete n u = λ x p z. not_asked (sym (settled-waits a says.Incomplete size t) ∙ z)
  next-settles says.TooMany n u = λ x p z. not_asked (sym (settled-waits a says.TooMany size t) ∙ z)
  next-settles (says.Dropped r) n u = λ x p z. not_asked (sym (settled-waits a (says.Dropped r) size t) ∙ z)
  next-settles (says.Plaintext k m s l) n u = λ x p z. not_asked (sym (settled-waits a (says.Plaintext k m s l) size t) ∙ z)
  next-settles (says.Unopened b m s l) n u = λ x p z. not_asked (sym (settled-waits a (says.Unopened b m s l) size t) ∙ z)
  next-settles (says.Opened e m k s l) n u = λ x p z. not_asked (sym (settled-waits a (says.Opened e m k s l) size t) ∙ z)

reply-asks-none : (r : Reading) → r ≡ says.Reply → NotMask r
reply-asks-none r q k s z = let x : ◌≡◌ {A = ℕ} 0 1 = cc in absurd (omega arith)

settled-asks-none : (r : Reading) → fate_of r ≡ settled → NotMask r
settled-asks-none r q k s z =
    let u : underway ≡ settled = sym (ap fate_of z) ∙ q in
    let x : ◌≡◌ {A = ℕ} 0 1 = cc in absurd (omega arith)

-- a proper reply asks no mask
pub mask-asks-none : (w : Shown) (m : List ℕ) (r : Reading) → Proper (a_mask_reply m) w r → NotMask r
mask-asks-none nothing m r p = reply-asks-none r p
mask-asks-none (a_mask e q) m r p = p.1
mask-asks-none (an_opening e n at head body) m r p = reply-asks-none r p

open_asks-none : (w : Shown) (o : Opening) (r : Reading) → Proper (an_open_reply o) w r → NotMask r
open_asks-none nothing o r p = reply-asks-none r p
open_asks-none (a_mask e q) o r p = reply-asks-none r p
open_asks-none (an_opening e n at head body) None r p = settled-asks-none r p
open_asks-none (an_opening e n at head body) (Some l) r p =
    ⊎_elim (λ q. settled-asks-none r (p.0 q)) (λ q. reply-asks-none r (p.1 q)) (eq-or_ne (l + tag_size) (length body))

-- ---- what is left of a datagram behind an alert

leaves_quiet : (a : Account) (size : ℕ) → Quiet a (leaves_rest a size a.waits)
leaves_quiet a size = by-waits a.waits refl
  where
    by-waits : (w : Shown) → a.waits ≡ w → Quiet a (leaves_rest a size w)
    by-waits nothing q = record { keyed = refl; asked = λ e p z. not_asked z }
    by-waits (a_mask e p) q = quiet_same a
    by-waits (an_opening e n at head body) q = quiet_same a

-- ---- any call

abbrev pub account_of : Host → Account
account_of h = h.seen.into.into.account

module _ (f h : Host) where
  quiet_in : (c : inner.InCall) (y : List ℕ) → Other (inward c y) → Owed h (inward c y) → Quiet (account_of h) (account_of (behind f h (inward c y)))
  quiet_in (inner.husk_receiving_key r v epoch iv) y o w = absurd o
  quiet_in (inner.husk_receiving_remove r v epoch) y o w = absurd o
  quiet_in (inner.husk_receiving_begin_read r v d) y o w = absurd o
  quiet_in (inner.husk_receiving_read r v) y o w = absurd o
  quiet_in (inner.husk_receiving_read_over r v d) y o w = absurd o
  quiet_in (inner.husk_receiving_enable_encryption r v) y o w = record { keyed = refl; asked = λ e p z. z }
  quiet_in (inner.husk_receiving_release_application_data r v) y o w = record { keyed = refl; asked = λ e p z. z }
  quiet_in (inner.husk_receiving_begin r v d) y o w =
      by_test (λ (i : Inbound). Quiet (account_of h) i.into.account)
      (λ t. record { keyed = refl; asked = λ e p z. not_asked z }) (λ t. record { keyed = refl; asked = λ e p z. z })
  quiet_in (inner.husk_receiving_mask r v m n e) y o w =
      next-quiet (account_of h) (length h.seen.into.into.arrived) h.seen.into.into.trial e (reading_of r)
      (mask-asks-none (account_of h).waits (m ∷ n ∷ []) (reading_of r) w.0)
  quiet_in (inner.husk_receiving_opened r v k len) y o w =
      by_test (λ (i : Inbound). Quiet (account_of h) i.into.account)
      (λ t.
      next-quiet (account_of h) (length h.seen.into.into.arrived) h.seen.into.into.trial h.seen.into.into.datagram (reading_of r)
      (open_asks-none (account_of h).waits (opening_of k len) (reading_of r) (w.0 (leb-true k 1 t))))
      (λ t. record { keyed = refl; asked = λ e p z. z })
  quiet_in (inner.husk_receiving_mask_over r v m n e d) y o w = record { keyed = refl; asked = λ e p z. z }
  quiet_in (inner.husk_receiving_opened_over r v k len d) y o w =
      by_test (λ (i : Inbound). Quiet (account_of h) i.into.account) (λ t. record { keyed = refl; asked = λ e p z. z })
      (λ t. record { keyed = refl; asked = λ e p z. z })
  quiet_in (inner.host_writes r p) y o w = quiet_same (account_of h)

  pub quiet : (a : Act) → Other a → Owed h a → Quiet (account_of h) (account_of (behind f h a))
  quiet (inward c y) o w = quiet_in c y o w
  quiet (husk_sending_sealing r) o w = quiet_same (account_of h)
  quiet (husk_flight_status r) o w = quiet_same (account_of h)
  quiet (husk_sending_status r) o w = quiet_same (account_of h)
  quiet (outward c) o w = quiet_same (account_of h)
  quiet (outward_over c q k) o w = quiet_same (account_of h)
  quiet (host_seals r bytes) o w = quiet_same (account_of h)
  quiet (husk_assembly_begin r v n) o w = quiet_same (account_of h)
  quiet (husk_assembly_take r v c d e) o w = quiet_same (account_of h)
  quiet (husk_receiving_classify r v y g m) o w =
      by_test (λ (z : End). Quiet (account_of h) z.into.into.account) (λ t. quiet_same (account_of h))
      (λ t. by_test (λ (z : End). Quiet (account_of h) z.into.into.account)
      (λ u. leaves_quiet (account_of h) (length h.seen.into.into.arrived)) (λ u. quiet_same (account_of h)))
  quiet (husk_receiving_classify_over r v y g m d) o w = quiet_same (account_of h)

-- ---- the application epoch to send in

lays-app : (l : Ledger) (e n : ℕ) → (lays l e n).application ≡ l.application
unfolding lays
lays-app l e n = refl

saves-app : (l : Ledger) (e t : ℕ) (x : List ℕ) → (saves l e t x).application ≡ l.application
unfolding saves lays
saves-app l e t x = refl

pieces-app : (k kind number : ℕ) (body : List ℕ) (at : ℕ) (g : Going) → (pieces k kind number body at g).ledger.application ≡ g.ledger.application
unfolding pieces saves_on saves lays
pieces-app zero kind number body at g = refl
pieces-app (suc k) kind number body at g = by_test (λ (z : Going). z.ledger.application ≡ g.ledger.application) (λ t. refl) (λ t. pieces-app k kind number body _ _)

sends-on : (k : Kept) (g : Going) → (sends_again k g).ledger.application ≡ g.ledger.application
unfolding sends_again lays
sends-on k g = refl

again-app : (ks : List Kept) (g : Going) → (again ks g).ledger.application ≡ g.ledger.application
unfolding again
again-app [] g = refl
again-app (k ∷ ks) g =
    again-app ks (choose k.acked (passes k g) (sends_again k g))
    ∙ by_test (λ (z : Going). z.ledger.application ≡ g.ledger.application) (λ t. refl) (λ t. sends-on k g)

abbrev NoKeying : SendCall → Type 0
NoKeying (key_send· e iv) = ⊥
NoKeying (send· e t x) = Unit {0}
NoKeying (save· e t x) = Unit {0}
NoKeying (message· kind body) = Unit {0}
NoKeying begin_flight· = Unit {0}
NoKeying resend· = Unit {0}
NoKeying (note· e n) = Unit {0}
NoKeying send_ack· = Unit {0}
NoKeying (ack· d) = Unit {0}
NoKeying (fill· v) = Unit {0}
NoKeying (sealed· n m) = Unit {0}
NoKeying (take· b) = Unit {0}

leaves-app : (l : Ledger) (c : SendCall) → NoKeying c → (leaves l c).application ≡ l.application
unfolding posted resent acked_by acking lays
leaves-app l (key_send· e iv) n = absurd n
leaves-app l (send· e t x) n = refl
leaves-app l (save· e t x) n = saves-app l e t x
leaves-app l (message· kind body) n = pieces-app 13 kind l.messages body 0 (record { ledger = l; sent = [] })
leaves-app l begin_flight· n = refl
leaves-app l resend· n = again-app l.saved (record { ledger = with_saved (closes l) []; sent = [] })
leaves-app l (note· e k) n = refl
leaves-app l send_ack· n = by_test (λ (z : Going). z.ledger.application ≡ l.application) (λ t. refl) (λ t. refl)
leaves-app l (ack· d) n = by_test (λ (z : Ledger). z.application ≡ l.application) (λ t. refl) (λ t. refl)
leaves-app l (fill· v) n = refl
leaves-app l (sealed· k m) n = refl
leaves-app l (take· b) n = refl

pub after-app : (l : Ledger) (c : SendCall) → NoKeying c → (after l c).application ≡ l.application
unfolding after
after-app l c n = by_test (λ (z : Ledger). z.application ≡ l.application) (λ t. leaves-app l c n) (λ t. refl)

abbrev app_of : Host → ℕ
app_of h = h.seen.ledger.application

module _ (f h : Host) where
  out-app : (c : inner.OutCall) → Other (outward c) → app_of (behind f h (outward c)) ≡ app_of h
  out-app (inner.husk_sending_key r v epoch iv) o = absurd o
  out-app (inner.husk_sending_sealed r v len m n p) o = absurd o
  out-app (inner.husk_sending_send r v epoch t c p) o = after-app _ (send· epoch t c) tt
  out-app (inner.husk_sending_take r v b c) o = after-app _ (send_of (inner.husk_sending_take r v b c)) tt
  out-app (inner.husk_sending_take_in_place r v) o = after-app _ (send_of (inner.husk_sending_take_in_place r v)) tt
  out-app (inner.husk_flight_begin r g) o = after-app _ begin_flight· tt
  out-app (inner.husk_flight_send r v g m epoch t c p j) o = after-app _ (save· epoch t c) tt
  out-app (inner.husk_flight_message r v g m kind body p j) o = after-app _ (message· kind body) tt
  out-app (inner.husk_flight_resend r v g m p) o = after-app _ resend· tt
  out-app (inner.husk_flight_ack r g m c) o = after-app _ (ack· c) tt
  out-app (inner.husk_notes_add r x y z epoch number) o = after-app _ (note· epoch number) tt
  out-app (inner.husk_notes_send r v x y z p) o = after-app _ send_ack· tt

  pub same-app : (a : Act) → Other a → app_of (behind f h a) ≡ app_of h
  same-app (inward c y) o = refl
  same-app (husk_sending_sealing r) o = refl
  same-app (husk_flight_status r) o = refl
  same-app (husk_sending_status r) o = refl
  same-app (outward c) o = out-app c o
  same-app (outward_over c q k) o = refl
  same-app (host_seals r bytes) o = after-app _ (fill· bytes) tt
  same-app (husk_assembly_begin r v n) o = refl
  same-app (husk_assembly_take r v c d e) o = refl
  same-app (husk_receiving_classify r v y g m) o =
      by_test (λ (z : End). z.ledger.application ≡ app_of h) (λ t. after-app _ (ack· _) tt)
      (λ t. by_test (λ (z : End). z.ledger.application ≡ app_of h) (λ u. refl) (λ u. refl))
  same-app (husk_receiving_classify_over r v y g m d) o = refl
