-- What is claimed of every list of calls with mask keys holds. Assumes nothing.
use Rattle.recv_keys.specs.Keys.{Found}
use Prim.Native.Nat.{ℕ, zero, suc, ◌+◌, ◌*◌, ◌≤◌, ◌<◌}
use Rattle.std.proofs.Common.{ne_eqb, eqb-true, ltb-true, ltb-false, inl, inr, ⊎_elim, sym, subst, ◌∙◌, arith}
use Rattle.std.proofs.lemmas.Bool.{eqb-false}
use Rattle.std.specs.Prelude.{eqb, ltb, length, replicate, true, false, List, [], ◌∷◌, ◌⊎◌, ◌≡◌, refl, None}
use Rattle.std.proofs.Math.ListN.{get_or}
use Rattle.std.proofs.lemmas.List.{length-replicate}
use Rattle.std.proofs.Math.Option.{Option, none, some}
use Rattle.std.proofs.Math.Path.{ap}
use Rattle.base.specs.Choose.{choose, either, if_true, if_false, by_test, test_cases, either-false}
use Rattle.datagram.specs.declared.Reading.TheVariants as says
use Rattle.datagram.specs.declared.Reading.{Reading}
use Rattle.recv_keys.specs.declared.RecvKeys.{RecvKeys}
use Rattle.receiving.specs.Receiving.{answer_number, key_of}
use Rattle.receiving.specs.declared.Receiving.{Receiving}
use Rattle.recv_words.specs.Words.{keys_of}
use Rattle.recv_key_steps.specs.Kept.{state_of}
use Rattle.recv_calls.specs.declared.HuskReading.{HuskReading}
use Rattle.answers.specs.declared.HuskTold.{HuskTold}
use Rattle.send_keys.specs.Answer.{refusal}
use Rattle.outgoing.specs.State.{keying_state}
use Rattle.send_calls.specs.Calls as sends
use Rattle.mask_keys.specs.Keys.{key_size, receive_size, send_size, emptied, filled, has_key, keyed_as, key_in, entry_of}
use Rattle.mask_calls.specs.Calls.{GoesOn, asked_key, MovesUp, seal_mask}
use Rattle.waiting_laws.specs.Calls.{Stores, key_send·, sealed·, Reply}
use Rattle.history_theorem.specs.Account.{sealed_over, Shown, nothing, a_mask, an_opening, Account, key_owed}
use Rattle.history_theorem.proofs.Calls.{key_told}
use Rattle.history_theorem.specs.Claim.{Masks}
use Rattle.history_theorem.specs.Receiver.{Inbound, a_read, fate_of, question_in, keeps_shown, goes_to}
use Rattle.ends_theorem.proofs.Every.{every-does}
use Rattle.ends_theorem.specs.Ledger.{application_data, last_number, Ledger, key_number}
use Rattle.ends_theorem.proofs.Theorem.{Good, new-good}
use Rattle.ends_theorem.specs.Sender.{FairSeal}
use Rattle.ends_theorem.proofs.Sends.{lent-under}
use Rattle.ends_theorem.specs.World.{Side, post, gateway, far, End, Setting, fresh-pair}
use Rattle.hosts_theorem.specs.Memory as inner
use Rattle.hosts_theorem.specs.Log as hosts
use Rattle.hosts_theorem.specs.Log.{reading_of, told, refused_told, Whole, Host, Act, inward, husk_sending_sealing, husk_flight_status, husk_sending_status, outward, outward_over, host_seals, husk_assembly_begin, husk_assembly_take, husk_receiving_classify, husk_receiving_classify_over, behind}
use Rattle.hosts_theorem.specs.Claim as theorem
use Rattle.hosts_theorem.specs.Claim.{Hosts, runs, Started, calls_of, hearing, deeds_of, FairDeeds, sight_of}
use Rattle.hosts_theorem.specs.Memory.{MadeOut}
use Rattle.hosts_theorem.proofs.Theorem.{starts, startable, every_list_of_calls, stop_order-sent as theorem-stop-order}
use Rattle.history_theorem.specs.Receiver as receiver
use Rattle.masks_theorem.specs.Hosts.{key_length, Given, MaskKeys, KeyedAct, other, husk_receiving_key, husk_receiving_key_masked, husk_receiving_remove, husk_receiving_read, husk_receiving_begin_read, husk_receiving_read_over, husk_sending_key, husk_sending_key_masked, husk_sending_sealed, husk_sending_sealed_over, Made, mask_shown, acts_of, keys_behind, KeyedHosts, KeyedCall, put_keys, at, after, list_of, AllMade}
use Rattle.masks_theorem.specs.Claim.{NoKeys, Agreed, masks_of, Unless, key_of_asked, spared_in, spared, Fair, AllFair, keying_owed, Owed, AllOwed, EveryListWithMaskKeys}
use Rattle.masks_theorem.proofs.Slots.{key_of as slotKey, Agree}
use Rattle.masks_theorem.proofs.Quiet.{quiet, same-app, after-app, account_of, next-keyed}
use Rattle.masks_theorem.proofs.ReadLaws.{asks-mask, mask-told, read-asks, read-shows}
use Rattle.masks_theorem.proofs.Looks.{pair_of, behind_all, MadeAll, FairAll, made_at, fair-at, made-both, fair-both, runs_own, runs-far, Well, well-behind, well-pair, looks, stands-own, sound-own, sends-own, matches-own}
use Rattle.masks_theorem.proofs.Steps.{HoldsIn, quiet-holds, keys_hold, keys-masked_hold, removes_hold}
use Rattle.masks_theorem.proofs.Goes.{First, Gone, gone}
use Rattle.masks_theorem.proofs.Sealing.{HoldsOut, sends-keys_hold, sends-keys-masked_hold, mask_is, seal_fair}

-- ---- 27

-- keying is told 13, 23 or nothing, and never 12
not_twelve : (a : Account) (e : ℕ) → key_owed a e ≡ 12 → ⊥
unfolding key_owed
not_twelve a e =
    by_test (λ (n : ℕ). n ≡ 12 → ⊥) (λ t z. omega arith) (λ t. by_test (λ (n : ℕ). n ≡ 12 → ⊥) (λ u z. omega arith) (λ u z. omega arith))

not_twelve_sent : (l : Ledger) (e : ℕ) → key_number l e ≡ 12 → ⊥
unfolding key_number
not_twelve_sent l e =
    by_test (λ (n : ℕ). n ≡ 12 → ⊥) (λ t z. omega arith) (λ t. by_test (λ (n : ℕ). n ≡ 12 → ⊥) (λ u z. omega arith) (λ u z. omega arith))

-- the program's number is the one owed
owed_as : (size n : ℕ) → (n ≡ 12 → ⊥) → keyed_as size n ≡ keying_owed size n
unfolding keyed_as
owed_as size n ne =
    by_test (λ (m : ℕ). m ≡ keying_owed size n) (λ t. sym (if_true _ _ t))
    (λ t. sym (if_false _ _ t
    ∙ test_cases (eqb n 13)
    (λ u. if_true _ _ u ∙ sym (eqb-true n 13 u) ∙ sym (if_true _ _ (either-false (ne_eqb n 12 ne) ∙ u)))
    (λ u. if_false _ _ u ∙ sym (if_false _ _ (either-false (ne_eqb n 12 ne) ∙ u)))))

-- a key of another length is not accepted
twelve_or_thirteen : (n : ℕ) → either (eqb n 12) (eqb n 13) ≡ true → n ≡ 0 → ⊥
twelve_or_thirteen n h z =
    test_cases (eqb n 12) (λ t. omega (arith, eqb-true n 12 t)) (λ t. omega (arith, eqb-true n 13 (sym (either-false t) ∙ h)))

never-keyed : (size n : ℕ) → (size ≡ key_size → ⊥) → keyed_as size n ≡ 0 → ⊥
unfolding keyed_as
never-keyed size n ne =
    by_test (λ (m : ℕ). m ≡ 0 → ⊥) (λ t z. ne (eqb-true size key_size t))
    (λ t. by_test (λ (m : ℕ). m ≡ 0 → ⊥) (λ u z. twelve_or_thirteen n u z) (λ u z. no_refusal z))
  where
    no_refusal : ◌≡◌ {A = ℕ} 27 0 → ⊥
    no_refusal z = omega arith

-- ---- no mask reply is spared where no mask is asked in an epoch with a mask key

unkeyed-asked : (f : Given) (w : Shown) → ((e p : ℕ) → w ≡ a_mask e p → f e ≡ none) → key_of_asked f w ≡ none
unkeyed-asked f nothing h = refl
unkeyed-asked f (a_mask e p) h = h e p refl
unkeyed-asked f (an_opening e n at head body) h = refl

spared-in : (f : Given) (w : Shown) → ((e p : ℕ) → w ≡ a_mask e p → f e ≡ none) → (c : inner.InCall) → spared_in f w c ≡ none
spared-in f w h (inner.husk_receiving_mask r v m n e) = unkeyed-asked f w h
spared-in f w h (inner.husk_receiving_key r v epoch iv) = refl
spared-in f w h (inner.husk_receiving_remove r v epoch) = refl
spared-in f w h (inner.husk_receiving_begin_read r v d) = refl
spared-in f w h (inner.husk_receiving_read r v) = refl
spared-in f w h (inner.husk_receiving_read_over r v d) = refl
spared-in f w h (inner.husk_receiving_enable_encryption r v) = refl
spared-in f w h (inner.husk_receiving_release_application_data r v) = refl
spared-in f w h (inner.husk_receiving_begin r v d) = refl
spared-in f w h (inner.husk_receiving_opened r v o len) = refl
spared-in f w h (inner.husk_receiving_mask_over r v m n e d) = refl
spared-in f w h (inner.husk_receiving_opened_over r v o len d) = refl
spared-in f w h (inner.host_writes r p) = refl

spared-none : (f : Given) (w : Shown) → ((e p : ℕ) → w ≡ a_mask e p → f e ≡ none) → (a : Act) → spared f w a ≡ none
spared-none f w h (inward c y) = spared-in f w h c
spared-none f w h (outward c) = refl
spared-none f w h (outward_over c q k) = refl
spared-none f w h (husk_sending_sealing r) = refl
spared-none f w h (husk_flight_status r) = refl
spared-none f w h (husk_sending_status r) = refl
spared-none f w h (host_seals r bytes) = refl
spared-none f w h (husk_assembly_begin r v n) = refl
spared-none f w h (husk_assembly_take r v c d e) = refl
spared-none f w h (husk_receiving_classify r v y g m) = refl
spared-none f w h (husk_receiving_classify_over r v y g m d) = refl

-- ---- one call at one host

module _ (agreed : Agreed) (masks : Side → Masks) where
  abbrev all : Side → Masks
  all = masks_of agreed masks

  record Holding (s : Side) (h : Host) (k : MaskKeys) : Type 0 where
    into : HoldsIn (agreed (far s)) (account_of h) k.receiving k.received
    out : HoldsOut (agreed s) h.seen.ledger.application k.sending k.sent

  record Stepped (s : Side) (f h : Host) (k : MaskKeys) (a : KeyedAct) (acts : List Act) : Type 0 where
    made : MadeAll f h acts
    fair : FairAll all s f h acts
    holding : Holding s (behind_all f h acts) (keys_behind k a)
    owed : Owed h k a

  module _ (s : Side) (f h : Host) (w : Well all (pair_of s f h)) (k : MaskKeys) (i : Holding s h k) where
    -- the words stand for the state
    keys_stand : keys_of h.incoming.words ≡ h.seen.into.into.state.keys
    keys_stand = ap (λ (x : Receiving). x.keys) (stands-own all s f h w).incoming.state

    app_not_two : h.seen.ledger.application ≡ 2 → ⊥
    app_not_two z =
        let m = matches-own all s f h w in
        let a = m.keys.application in
        ⊎_elim (λ (u : h.seen.out.stores.state.keys.application.epoch ≡ 0). omega arith)
        (λ (u : 3 ≤ h.seen.out.stores.state.keys.application.epoch). omega arith) m.holds.keys.epoch

    step_other : (a : Act) → Made h k (other a) → Fair agreed all s f h k (other a) → Stepped s f h k (other a) (a ∷ [])
    step_other a m g =
        let fair = subst (λ (o : Option (List ℕ)). Unless o (FairDeeds all s f.seen h.seen (deeds_of a))) (spared-none k.received (account_of h).waits i.into.unasked a) g in
        let l = looks all s f h w a m.1 fair in
        record {
          made = (m.1, tt);
          fair = (fair, tt);
          holding = record {
            into = quiet-holds (agreed (far s)) k.receiving k.received (account_of h) (account_of (behind f h a)) (quiet f h a m.0 l.0) i.into;
            out = subst (λ (n : ℕ). HoldsOut (agreed s) n k.sending k.sent) (sym (same-app f h a m.0)) i.out;
          };
          owed = tt;
        }

    -- ---- keying and removing

    module _ (r : ℕ) (v j : List ℕ) (e : ℕ) (iv : List ℕ) where
      abbrev keying : Act
      keying = inward (inner.husk_receiving_key r v e iv) h.pending

      key-owed : hosts.Made h keying → r ≡ key_owed (account_of h) e
      key-owed m = (looks all s f h w keying m (tt, tt)).0

      step_key : Made h k (husk_receiving_key r v j e iv) → Stepped s f h k (husk_receiving_key r v j e iv) (keying ∷ [])
      step_key m = record {
        made = ((m.0, refl), tt);
        fair = ((tt, tt), tt);
        holding = record {
          into = keys_hold (agreed (far s)) h.seen.into.into (sound-own all s f h w) e iv r (key-owed (m.0, refl)) j k.receiving k.received
              (m.1 ∙ ap (λ (x : RecvKeys). choose (eqb r 0) (emptied 5 x.count k.receiving) k.receiving) keys_stand) i.into;
          out = i.out;
        };
        owed = λ n. m.1 ∙ if_false _ _ (ne_eqb r 0 n);
      }

      module _ (key : List ℕ) (m : Made h k (husk_receiving_key_masked r v j e iv key)) (g : Fair agreed all s f h k (husk_receiving_key_masked r v j e iv key)) where
        long_enough : eqb (length key) key_length ≡ true → Stepped s f h k (husk_receiving_key_masked r v j e iv key) (keying ∷ [])
        long_enough t =
            let size = eqb-true (length key) 32 t in
            let made : hosts.Made h keying = (m.0 size, refl) in
            record {
              made = (made, tt);
              fair = ((tt, tt), tt);
              holding = record {
                into = keys-masked_hold (agreed (far s)) h.seen.into.into (sound-own all s f h w) e iv r (key-owed made) j k.receiving k.received key size g
                    (m.2 ∙ ap (λ (x : RecvKeys). choose (eqb r 0) (filled 5 x.count key k.receiving) k.receiving) keys_stand) i.into;
                out = i.out;
              };
              owed = (key-owed made ∙ sym (if_true _ _ t), λ ne. absurd (ne size), λ n. m.2 ∙ if_false _ _ (ne_eqb r 0 n));
            }

        other_length : eqb (length key) key_length ≡ false → Stepped s f h k (husk_receiving_key_masked r v j e iv key) []
        other_length t =
            let ne = eqb-false (length key) 32 t in
            let y = h.seen.into.into in
            let st = (stands-own all s f h w).incoming in
            let told : r ≡ keyed_as (length key) (key_owed (account_of h) e) =
            (m.1 ne).0 ∙ if_true _ _ st.flat
            ∙ ap (λ (x : Receiving). keyed_as (length key) (answer_number (key_of x e iv).answer)) st.state
            ∙ ap (keyed_as (length key)) (key_told y (sound-own all s f h w) e iv) in
            let refused = ne_eqb r 0 (λ z. never-keyed (length key) (key_owed (account_of h) e) ne (sym told ∙ z)) in
            let same : j ≡ k.receiving = m.2 ∙ if_false _ _ refused in
            record {
              made = tt;
              fair = tt;
              holding = record {
                into =
                    subst (λ (x : Given). HoldsIn (agreed (far s)) (account_of h) j x) (sym (if_false _ _ refused))
                    (subst (λ (x : List ℕ). HoldsIn (agreed (far s)) (account_of h) x k.received) (sym same) i.into);
                out = i.out;
              };
              owed = (told ∙ owed_as (length key) (key_owed (account_of h) e) (not_twelve (account_of h) e), λ z. ((m.1 ne).1, same), λ n. same);
            }

        step_key_masked : Stepped s f h k (husk_receiving_key_masked r v j e iv key) (acts_of h k (husk_receiving_key_masked r v j e iv key))
        step_key_masked = by_test (λ (x : List Act). Stepped s f h k (husk_receiving_key_masked r v j e iv key) x) long_enough other_length

    step_remove : (r : HuskTold) (v j : List ℕ) (e : ℕ) → Made h k (husk_receiving_remove r v j e)
        → Stepped s f h k (husk_receiving_remove r v j e) (inward (inner.husk_receiving_remove r v e) h.pending ∷ [])
    step_remove r v j e m =
        let l = looks all s f h w (inward (inner.husk_receiving_remove r v e) h.pending) (m.0, refl) (tt, tt) in
        record {
          made = ((m.0, refl), tt);
          fair = ((tt, tt), tt);
          holding = record {
            into = removes_hold (agreed (far s)) h.seen.into.into (sound-own all s f h w) e (state_of v) r l.0 j k.receiving k.received
                (subst (λ (x : RecvKeys). MovesUp (choose (eqb r.refusal 0) (entry_of x e) None) j k.receiving) keys_stand m.1) i.into;
            out = i.out;
          };
          owed = λ n. subst (λ (p : Found). MovesUp p j k.receiving) (if_false _ _ (ne_eqb r.refusal 0 n)) m.1;
        }

    -- ---- reading

    -- what a reading comes to
    read_done : (a : KeyedAct) (o : Option (List ℕ)) (acts : List Act) (x r : HuskReading) (u v e d : List ℕ) → keys_behind k a ≡ k
        → Gone agreed masks s f h w k.receiving k.received i.into o acts x r u v e d → Owed h k a → Stepped s f h k a acts
    read_done a o acts x r u v e d same z owed = record {
      made = z.made;
      fair = z.fair;
      holding = subst (Holding s (behind_all f h acts)) (sym same) (record {
        into = z.holding;
        out = subst (λ (n : ℕ). HoldsOut (agreed s) n k.sending k.sent) (sym z.application) i.out;
      });
      owed = owed;
    }

    step-read : (a : HuskReading) (u : List ℕ) (r : HuskReading) (v y e : List ℕ) → Made h k (husk_receiving_read a u r v y e)
        → Stepped s f h k (husk_receiving_read a u r v y e) (acts_of h k (husk_receiving_read a u r v y e))
    step-read a u r v y e m =
        let c = inner.husk_receiving_read a u in
        let z = h.seen.into.into in
        let o = (looks all s f h w (inward c y) m.0 (tt, tt)).0 in
        let first : First agreed masks s f h w k.receiving k.received i.into c a u y h.incoming.datagram = record {
          made = m.0;
          fair = (tt, tt);
          words = refl;
          bytes = λ six. refl;
          keyed = next-keyed (fate_of (reading_of a)) z.account (reading_of a) _ _ _;
          asks = λ n p q. inl (mask-told a o.1 n p (read-asks z.account _ _ z.datagram z.account.waits refl (reading_of a) o.0 n p q));
          shows = λ six. read-shows z.account _ _ z.datagram z.account.waits (reading_of a) o.0 a.epoch a.start (asks-mask a six);
        } in
        let g = gone agreed masks s f h w k.receiving k.received i.into c a u y h.incoming.datagram first r v e m.1 in
        read_done (husk_receiving_read a u r v y e) _ _ a r u v e h.incoming.datagram refl g g.owed

    step_begin_read : (a : HuskReading) (u : List ℕ) (r : HuskReading) (v y e d : List ℕ) → Made h k (husk_receiving_begin_read a u r v y e d)
        → Stepped s f h k (husk_receiving_begin_read a u r v y e d) (acts_of h k (husk_receiving_begin_read a u r v y e d))
    step_begin_read a u r v y e d m =
        let c = inner.husk_receiving_begin_read a u d in
        let z = h.seen.into.into in
        let b = goes_to z.account 0 0 in
        let fair : FairDeeds all s f.seen h.seen (deeds_of (inward c y)) =
        by_test (λ (cs : List receiver.Call). FairDeeds all s f.seen h.seen (hearing cs)) (λ t. (tt, tt)) (λ t. (tt, (tt, tt))) in
        let o = (looks all s f h w (inward c y) m.0 fair).0 in
        let short : ltb 16384 (length d) ≡ false → length d ≤ 16384 = λ t. ltb-false 16384 (length d) t in
        let not-six : ltb 16384 (length d) ≡ true → a.kind ≡ 6 → ⊥ =
        λ t six. omega (arith, sym (ap (λ (x : HuskReading). x.kind) (o.0 (ltb-true 16384 (length d) t))) ∙ six) in
        let first : First agreed masks s f h w k.receiving k.received i.into c a u y d = record {
          made = m.0;
          fair = fair;
          words = refl;
          bytes = λ six. by_test (λ (x : List ℕ). x ≡ d) (λ t. absurd (not-six t six)) (λ t. refl);
          keyed =
              by_test (λ (x : Inbound). x.into.account.keyed ≡ z.account.keyed) (λ t. refl)
              (λ t. next-keyed (fate_of (reading_of a)) b (reading_of a) _ _ _);
          asks = λ n p.
              by_test (λ (x : Inbound). x.into.account.waits ≡ a_mask n p → ((a.kind ≡ 6) × (a.epoch ≡ n)) ⊎ (z.account.waits ≡ a_mask n p)) (λ t q. inr q)
              (λ t q. inl (mask-told a (o.1 (short t)).1 n p (read-asks b _ _ d nothing refl (reading_of a) (o.1 (short t)).0 n p q)));
          shows = λ six.
              by_test (λ (x : Inbound). x.into.account.waits ≡ a_mask a.epoch a.start) (λ t. absurd (not-six t six))
              (λ t. read-shows b _ _ d nothing (reading_of a) (o.1 (short t)).0 a.epoch a.start (asks-mask a six));
        } in
        let g = gone agreed masks s f h w k.receiving k.received i.into c a u y d first r v e m.1 in
        read_done (husk_receiving_begin_read a u r v y e d) _ _ a r u v e d refl g g.owed

    -- a reading that is refused by 15 asks for no mask
    turned-back : (a : HuskReading) (u : List ℕ) → reading_of a ≡ says.Reply → Whole a → asked_key a u k.receiving ≡ none
    unfolding asked_key
    turned-back a u q z =
        let zero : a.kind ≡ 0 = ap (λ (x : HuskReading). x.kind) (z ∙ ap (λ (x : Reading). told x a.nonce) q) in
        if_false _ _ (ne_eqb a.kind 6 (λ six. omega arith))

    step-read-over : (a : HuskReading) (u : List ℕ) (r : HuskReading) (v y e d : List ℕ) → Made h k (husk_receiving_read_over a u r v y e d)
        → Fair agreed all s f h k (husk_receiving_read_over a u r v y e d)
        → Stepped s f h k (husk_receiving_read_over a u r v y e d) (inward (inner.husk_receiving_read_over a u d) y ∷ [])
    step-read-over a u r v y e d m g =
        let o = (looks all s f h w (inward (inner.husk_receiving_read_over a u d) y) m.0 (g, tt)).0 in
        let same = subst (λ (x : Option (List ℕ)). GoesOn x r v a u e d) (turned-back a u o.0 o.1) m.1 in
        record {
          made = (m.0, tt);
          fair = ((g, tt), tt);
          holding = record { into = i.into; out = i.out };
          owed = same;
        }

    -- ---- sending

    module _ (r : ℕ) (v j : List ℕ) (e : ℕ) (iv : List ℕ) (small : e < 65536) where
      abbrev keying_out : Act
      keying_out = outward (inner.husk_sending_key r v e iv)

      key-number : hosts.Made h keying_out → r ≡ key_number h.seen.ledger e
      key-number m = ap (λ (x : Reply). x.number) (looks all s f h w keying_out m ((small, tt), tt)).0.0

      step_send_key : Made h k (husk_sending_key r v j e iv) → Stepped s f h k (husk_sending_key r v j e iv) (keying_out ∷ [])
      step_send_key m = record {
        made = (m.0, tt);
        fair = (((small, tt), tt), tt);
        holding = record {
          into = i.into;
          out = sends-keys_hold (agreed s) h.seen.ledger app_not_two e iv r (key-number m.0) j k.sending k.sent m.1 i.out;
        };
        owed = λ n. m.1 ∙ if_false _ _ (ne_eqb r 0 n);
      }

      module _ (key : List ℕ) (m : Made h k (husk_sending_key_masked r v j e iv key)) (g : r ≡ 0 → agreed s e ≡ some key) where
        long-out : eqb (length key) key_length ≡ true → Stepped s f h k (husk_sending_key_masked r v j e iv key) (keying_out ∷ [])
        long-out t =
            let size = eqb-true (length key) 32 t in
            record {
              made = (m.0 size, tt);
              fair = (((small, tt), tt), tt);
              holding = record {
                into = i.into;
                out = sends-keys-masked_hold (agreed s) h.seen.ledger app_not_two e iv r (key-number (m.0 size)) j k.sending k.sent key size g m.2 i.out;
              };
              owed = (key-number (m.0 size) ∙ sym (if_true _ _ t), λ ne. absurd (ne size), λ n. m.2 ∙ if_false _ _ (ne_eqb r 0 n));
            }

        other-out : eqb (length key) key_length ≡ false → Stepped s f h k (husk_sending_key_masked r v j e iv key) []
        other-out t =
            let ne = eqb-false (length key) 32 t in
            let st = (stands-own all s f h w).outgoing in
            let l = h.seen.ledger in
            let said = (every-does (all s) h.seen.out l (key_send· e iv) (matches-own all s f h w) small).reply in
            let told : r ≡ keyed_as (length key) (key_number l e) =
            (m.1 ne).0 ∙ if_true _ _ st.flat
            ∙ ap (λ (x : Stores). keyed_as (length key) (refusal (keying_state x.state e iv).answer)) st.stores
            ∙ ap (λ (x : Reply). keyed_as (length key) x.number) said in
            let refused = ne_eqb r 0 (λ z. never-keyed (length key) (key_number l e) ne (sym told ∙ z)) in
            let same : j ≡ k.sending = m.2 ∙ if_false _ _ refused in
            record {
              made = tt;
              fair = tt;
              holding = record {
                into = i.into;
                out =
                    subst (λ (x : Given). HoldsOut (agreed s) l.application j x) (sym (if_false _ _ refused))
                    (subst (λ (x : List ℕ). HoldsOut (agreed s) l.application x k.sent) (sym same) i.out);
              };
              owed = (told ∙ owed_as (length key) (key_number l e) (not_twelve_sent l e), λ z. ((m.1 ne).1, same), λ n. same);
            }

        step_send_key_masked : Stepped s f h k (husk_sending_key_masked r v j e iv key) (acts_of h k (husk_sending_key_masked r v j e iv key))
        step_send_key_masked = by_test (λ (x : List Act). Stepped s f h k (husk_sending_key_masked r v j e iv key) x) long-out other-out

    -- the mask made over a queue is that of the question shown
    mask-same : (q : List ℕ) (m n : ℕ) → seal_mask h.outgoing.words k.sending q m n ≡ mask_shown k.sent h.seen.out.lent q (m ∷ n ∷ [])
    mask-same =
        let st = (stands-own all s f h w).outgoing in
        let app = (matches-own all s f h w).keys.application in
        mask_is (agreed s) h.seen.ledger.application k.sending k.sent i.out h.outgoing.words h.outgoing.queue st.shown.0 h.seen.out.lent st.flat st.shown.1
        (λ l z. ⊎_elim (λ (u : l.epoch ≡ 2). inl u) (λ (u : l.epoch ≡ h.seen.out.stores.state.keys.application.epoch). inr (u ∙ app)) (lent-under (all s) h.seen.out (sends-own all s f h w) l z))

    module _ (r : ℕ) (v : List ℕ) (len m n : ℕ) (p : List ℕ) where
      abbrev mask_over : List ℕ → List ℕ
      mask_over q = mask_shown k.sent h.seen.out.lent q (m ∷ n ∷ [])

      abbrev sealing : List ℕ → inner.OutCall
      sealing q = inner.husk_sending_sealed r v len (get_or (mask_over q) 0 0) (get_or (mask_over q) 1 0) p

      sealed-over : (q : List ℕ) → sends.SealedCall r v h.outgoing.words len (get_or (seal_mask h.outgoing.words k.sending q m n) 0 0) (get_or (seal_mask h.outgoing.words k.sending q m n) 1 0) p q
          → sends.SealedCall r v h.outgoing.words len (get_or (mask_over q) 0 0) (get_or (mask_over q) 1 0) p q
      sealed-over q c = subst (λ (x : List ℕ). sends.SealedCall r v h.outgoing.words len (get_or x 0 0) (get_or x 1 0) p q) (mask-same q m n) c

      step-sealed : Made h k (husk_sending_sealed r v len m n p) → Fair agreed all s f h k (husk_sending_sealed r v len m n p)
          → Stepped s f h k (husk_sending_sealed r v len m n p) (outward (sealing h.outgoing.queue) ∷ [])
      step-sealed c g =
          let st = (stands-own all s f h w).outgoing in
          let queue = ap (λ (x : Stores). x.queue) st.stores in
          let fair = subst (λ (q : List ℕ). FairSeal (all s) h.seen.out.lent q len (get_or (mask_over h.outgoing.queue) 0 0 ∷ get_or (mask_over h.outgoing.queue) 1 0 ∷ [])) queue
          (seal_fair (agreed s) h.seen.ledger.application k.sending k.sent i.out (masks s) h.seen.out.lent h.outgoing.queue len m n g) in
          record {
            made = (sealed-over h.outgoing.queue c, tt);
            fair = (((fair, tt), tt), tt);
            holding = record {
              into = i.into;
              out = subst (λ (x : ℕ). HoldsOut (agreed s) x k.sending k.sent) (sym (after-app h.seen.ledger (sealed· len _) tt)) i.out;
            };
            owed = tt;
          }

      step-sealed-over : (q c : List ℕ) → Made h k (husk_sending_sealed_over r v len m n p q c) → Fair agreed all s f h k (husk_sending_sealed_over r v len m n p q c)
          → Stepped s f h k (husk_sending_sealed_over r v len m n p q c) (outward_over (sealing q) q c ∷ [])
      step-sealed-over q c x g = record {
        made = (sealed-over q x, tt);
        fair = ((g, tt), tt);
        holding = record { into = i.into; out = i.out };
        owed = tt;
      }

    step : (a : KeyedAct) → Made h k a → Fair agreed all s f h k a → Stepped s f h k a (acts_of h k a)
    step (other a) m g = step_other a m g
    step (husk_receiving_key r v j e iv) m g = step_key r v j e iv m
    step (husk_receiving_key_masked r v j e iv key) m g = step_key_masked r v j e iv key m g
    step (husk_receiving_remove r v j e) m g = step_remove r v j e m
    step (husk_receiving_read a u r v y e) m g = step-read a u r v y e m
    step (husk_receiving_begin_read a u r v y e d) m g = step_begin_read a u r v y e d m
    step (husk_receiving_read_over a u r v y e d) m g = step-read-over a u r v y e d m g
    step (husk_sending_key r v j e iv) m g = step_send_key r v j e iv g m
    step (husk_sending_key_masked r v j e iv key) m g = step_send_key_masked r v j e iv g.0 key m g.1
    step (husk_sending_sealed r v len m n p) c g = step-sealed r v len m n p c g
    step (husk_sending_sealed_over r v len m n p q c) x g = step-sealed-over r v len m n p q c x g

  -- ---- a list of calls

  abbrev Hold : KeyedHosts → Type 0
  Hold ks = (s : Side) → Holding s (ks.hosts s) (ks.keys s)

  hold_behind : (s : Side) (ks : KeyedHosts) (a : KeyedAct) (k : MaskKeys) (acts : List Act) → Hold ks → Holding s (behind_all (ks.hosts (far s)) (ks.hosts s) acts) k
      → (t : Side) → Holding t (runs ks.hosts (at s acts) t) (put_keys s k ks.keys t)
  hold_behind post ks a k acts old new post = subst (λ (x : Host). Holding post x k) (sym (runs_own post ks.hosts acts)) new
  hold_behind post ks a k acts old new gateway = subst (λ (x : Host). Holding gateway x (ks.keys gateway)) (sym (runs-far post ks.hosts acts)) (old gateway)
  hold_behind gateway ks a k acts old new post = subst (λ (x : Host). Holding post x (ks.keys post)) (sym (runs-far gateway ks.hosts acts)) (old post)
  hold_behind gateway ks a k acts old new gateway = subst (λ (x : Host). Holding gateway x k) (sym (runs_own gateway ks.hosts acts)) new

  all-met : (ks : KeyedHosts) (cs : List KeyedCall) → Well all ks.hosts → Hold ks → AllMade ks cs → AllFair agreed masks ks cs
      → theorem.AllMade ks.hosts (list_of ks cs) × theorem.AllFair all ks.hosts (list_of ks cs) × AllOwed ks cs
  all-met ks [] w i m g = (tt, tt, tt)
  all-met ks (c ∷ cs) w i m g =
      let s = c.side in
      let hs = ks.hosts in
      let x = step s (hs (far s)) (hs s) (well-pair all s hs w) (ks.keys s) (i s) c.act m.0 g.0 in
      let acts = acts_of (hs s) (ks.keys s) c.act in
      let made = made_at s hs acts x.made in
      let fair = fair-at all s hs acts x.fair in
      let rest = all-met (after ks c) cs (well-behind all hs (at s acts) w made fair).1
      (hold_behind s ks c.act (keys_behind (ks.keys s) c.act) acts i x.holding) m.1 g.1 in (
        made-both hs (at s acts) (list_of (after ks c) cs) made rest.0,
        fair-both all hs (at s acts) (list_of (after ks c) cs) fair rest.1,
        (x.owed, rest.2),
      )

  -- ---- the start

  none-agreed : {key : List ℕ} {o : Option (List ℕ)} (p : Option (List ℕ)) → p ≡ none → p ≡ some key → o ≡ some key
  none-agreed p q z = let x : none ≡ some _ = sym q ∙ z in let c : ◌≡◌ {A = ℕ} 0 1 = cc in absurd (omega arith)

  abbrev zeros : ℕ → List ℕ
  zeros n = replicate n 0

  zero-at : (n i : ℕ) → get_or (zeros n) i 0 ≡ 0
  zero-at zero i = refl
  zero-at (suc n) zero = refl
  zero-at (suc n) (suc i) = zero-at n i

  empty-slot : (n i : ℕ) → slotKey (zeros n) i ≡ none
  unfolding key_in has_key
  empty-slot n i = if_false _ _ (ne_eqb _ _ (λ (z : get_or (zeros n) (i * 33) 0 ≡ 1). omega (arith, zero-at n (i * 33))))

  started-holds : (s : Side) (setting : Setting) (h : Host) (k : MaskKeys) → Started setting h → NoKeys k → Holding s h k
  started-holds s setting h k t n = record {
    into = record {
      long = ap length n.receiving ∙ length-replicate {A = ℕ} receive_size 0;
      slots = subst (λ (a : Account). Agree a.keyed k.receiving k.received) (sym (ap (λ (x : End). x.into.into.account) t.seen)) tt;
      unasked = λ e p z. n.received e;
      right = λ e key z. none-agreed (k.received e) (n.received e) z;
    };
    out = record {
      long = ap length n.sending ∙ length-replicate {A = ℕ} send_size 0;
      first = ap (λ (l : List ℕ). slotKey l 0) n.sending ∙ empty-slot send_size 0 ∙ sym (n.sent 2);
      second = ap (λ (l : List ℕ). slotKey l 1) n.sending ∙ empty-slot send_size 1 ∙ sym (n.sent h.seen.ledger.application);
      right = λ e key z. none-agreed (k.sent e) (n.sent e) z;
    };
  }

-- ---- every list of calls

module _ (settings : Side → Setting) (ks : KeyedHosts) (st : (s : Side) → Started (settings s) (ks.hosts s)) (empty : (s : Side) → NoKeys (ks.keys s)) (agreed : Agreed) (masks : Side → Masks)
    (cs : List KeyedCall) (made : AllMade ks cs) (fair : AllFair agreed masks ks cs) where
  abbrev theirs : Side → Masks
  theirs = masks_of agreed masks

  met : theorem.AllMade ks.hosts (list_of ks cs) × theorem.AllFair theirs ks.hosts (list_of ks cs) × AllOwed ks cs
  met =
      let first : sight_of ks.hosts ≡ fresh-pair settings = (λ i s. (st s).seen i) in
      let well : Well theirs ks.hosts = record {
        stands = λ s. starts (settings s) (ks.hosts s) (st s);
        good = subst (Good theirs) (sym first) (new-good theirs settings (λ s. startable (settings s) (ks.hosts s) (st s)));
      } in
      all-met agreed masks ks cs well (λ s. started-holds agreed masks s (settings s) (ks.hosts s) (ks.keys s) (st s) (empty s)) made fair

  -- a host that keeps the rules can always send its stop order: as without mask keys, husk_sending_send answers 0, after every list of calls
  pub stop_order-sent : (s : Side) (r : ℕ) (v x p : List ℕ) → let h = runs ks.hosts (list_of ks cs) s in
      let l = h.seen.ledger in
      3 ≤ l.application → length x + sealed_over ≤ l.mtu → l.mtu ≤ 1500 → length l.queue < l.limit → l.next l.application < last_number
      → MadeOut h.outgoing (inner.husk_sending_send r v l.application application_data x p) → r ≡ 0
  stop_order-sent = theorem-stop-order settings ks.hosts st theirs (list_of ks cs) met.0 met.1

pub every_list_with-mask-keys : EveryListWithMaskKeys
every_list_with-mask-keys settings ks st empty agreed masks cs made fair =
    let m = met settings ks st empty agreed masks cs made fair in
    record { refines = every_list_of_calls settings ks.hosts st (masks_of agreed masks) (list_of ks cs) m.0 m.1; owed = m.2 }
