-- What the account sends again: each saved record that is not acknowledged, once, in order, with the epoch, type and content that the host gave when
-- it was saved. Assumes nothing.
use Rattle.std.specs.Prelude.{ℕ, List, [], ◌∷◌, ◌++◌, ◌≡◌, refl}
use Rattle.std.proofs.Common.{append_assoc, append-nil, sym, ap, ◌∙◌}
use Rattle.base.specs.Choose.{choose, if_true, if_false, test_cases}
use Rattle.ends_theorem.specs.Ledger.{Sent, Kept, Ledger, Going, sends_again, passes, again, resent}

-- epoch, type and content of each record sent, and of each saved one that is not acknowledged
abbrev pub sent_as : List Sent → List (ℕ × ℕ × List ℕ)
sent_as [] = []
sent_as (r ∷ rs) = (r.epoch, r.type, r.content) ∷ sent_as rs

abbrev pub unacked : List Kept → List (ℕ × ℕ × List ℕ)
unacked [] = []
unacked (k ∷ ks) = choose k.acked (unacked ks) ((k.epoch, k.type, k.content) ∷ unacked ks)

sent-append : (rs us : List Sent) → sent_as (rs ++ us) ≡ sent_as rs ++ sent_as us
sent-append [] us = refl
sent-append (r ∷ rs) us = ap (λ (l : List (ℕ × ℕ × List ℕ)). (r.epoch, r.type, r.content) ∷ l) (sent-append rs us)

again-sends : (ks : List Kept) (g : Going) → sent_as (again ks g).sent ≡ sent_as g.sent ++ unacked ks
unfolding again sends_again
again-sends [] g = sym (append-nil (sent_as g.sent))
again-sends (k ∷ ks) g =
    test_cases k.acked
    (λ z. ap (λ (v : Going). sent_as (again ks v).sent) (if_true _ _ z) ∙ again-sends ks (passes k g) ∙ ap (λ (l : List (ℕ × ℕ × List ℕ)). sent_as g.sent ++ l) (sym (if_true _ _ z)))
    (λ z.
    ap (λ (v : Going). sent_as (again ks v).sent) (if_false _ _ z) ∙ again-sends ks (sends_again k g)
    ∙ ap (λ (l : List (ℕ × ℕ × List ℕ)). l ++ unacked ks) (sent-append g.sent _) ∙ append_assoc (sent_as g.sent) _ (unacked ks)
    ∙ ap (λ (l : List (ℕ × ℕ × List ℕ)). sent_as g.sent ++ l) (sym (if_false _ _ z)))

pub resend_sends : (l : Ledger) → sent_as (resent l).sent ≡ unacked l.saved
unfolding resent
resend_sends l = again-sends l.saved _
