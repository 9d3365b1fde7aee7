-- Worked lists on two ends whose premises are met, computed: both directions, a saved record sent twice and its old number acknowledged; a message cut
-- in two; calls refused by each number that a short list can reach; readings dealt with, an alert, a close and what lies beyond it. Assumes nothing.
use Rattle.std.specs.Prelude.{ℕ, ◌+◌, ◌*◌, length, replicate, true, false, ◌≡◌, refl, Some}
use Rattle.std.proofs.Common.{leb-true, sym, subst, arith}
use mathlib.Core.List.Memᴰ.{head as here}
use mathlib.Core.List.Memᴰ.{tail as there}
use mathlib.Core.List.{List, [], ◌∷◌, ◌++◌, Memᴰ as Mem}
use Rattle.std.proofs.Math.Option.{none, some}
use Rattle.base.specs.Bits as base-bits
use Rattle.base.specs.Choose as base-choose
use Rattle.base.specs.Parts as base-parts
use Rattle.window.specs.Used as window-used
use Rattle.window.specs.Window as window-window
use Rattle.sequence.specs.Sequence as sequence-sequence
use Rattle.record.specs.Record as record-record
use Rattle.dtls_aead.specs.Nonce as dtls-aead-nonce
use Rattle.incoming.specs.Inner as incoming-inner
use Rattle.recv_keys.specs.Keys as recv-keys-keys
use Rattle.datagram.specs.Datagram as datagram-datagram
use Rattle.records.specs.Records as records-records
use Rattle.mask_reply.specs.Mask as mask-reply-mask
use Rattle.opening_reply.specs.Opening as opening-reply-opening
use Rattle.receiving.specs.Receiving as receiving-receiving
use Rattle.queue.specs.Laid as queue-laid
use Rattle.queue.specs.Queue as queue-queue
use Rattle.send_keys.specs.Keys as send-keys-keys
use Rattle.outgoing.specs.Send as outgoing-send
use Rattle.outgoing.specs.State as outgoing-state
use Rattle.sealing.specs.Sealing as sealing-sealing
use Rattle.sealing.specs.Seek as sealing-seek
use Rattle.taking.specs.Take as sealing-take
use Rattle.flight.specs.Flight as flight-flight
use Rattle.flight.specs.Save as flight-save
use Rattle.flight.specs.Status as flight-status
use Rattle.handshake.specs.Header as handshake-header
use Rattle.messages.specs.Cut as messages-cut
use Rattle.messages.specs.Message as messages-message
use Rattle.waiting_laws.specs.Calls.{SendCall, key_send·, send·, save·, message·, resend·, note·, send_ack·, fill·, sealed·, take·, Reply, only}
use Rattle.history_theorem.specs.Account as history-account
use Rattle.history_theorem.specs.Receiver as history-receiver
use Rattle.process_ack.specs.Ack as process-ack-ack
use Rattle.process_ack.specs.Status as process-ack-status
use Rattle.acks.specs.Acks as acks-acks
use Rattle.resend.specs.Resend as resend-resend
use Rattle.resend.specs.Tests as resend-tests
use Rattle.sealing.specs.Sealing.{masked_header}
use Rattle.record.specs.Record.{unified_header}
use Rattle.classify.specs.Classify as classify-classify
use Rattle.classify_theorem.specs.Account as classify-account
use Rattle.classify_theorem.specs.Account.{Reply as Dealt, noneWaits, beyond, ignored, closes, tells, handshake}
use Rattle.classify_theorem.specs.Claim.{Told}
use Rattle.history_theorem.specs.Claim.{Masks}
use Rattle.history_theorem.proofs.Example.{yes_fair}
use Rattle.history_theorem.proofs.Lists.{mem-by}
use Rattle.history_theorem.specs.Receiver.{Sealed, Handed, Call, key·, encrypt·, begin·, read·, mask·, write·, open·}
use Rattle.history_theorem.specs.Account.{tag_size, sealed_tail}
use Rattle.ends_theorem.specs.Claim.{Holds, Startable}
use Rattle.ends_theorem.specs.Flights.{FairAck}
use Rattle.ends_theorem.specs.Ledger as ends-ledger
use Rattle.ends_theorem.specs.Ledger.{Sent, Item, Kept, Name, Ledger, new_ledger, with_keys, with_saved, with_messages, total, keyed, send_number, save_number, posted, message_number, resend_number}
use Rattle.ends_theorem.proofs.Theorem.{every_list}
use Rattle.ends_theorem.specs.Sender as ends-sender
use Rattle.ends_theorem.specs.World.{Side, post, gateway, Said, sending, receiving, dealing, Event, run, Setting, fresh-pair, Honest}

-- every definition that a list computes with
opened : Unit {0}
unfolding classify-classify.is_inside classify-classify.is_sound classify-classify.is_after classify-classify.is_beyond classify-classify.is_guarded classify-classify.alert_as classify-classify.by_type classify-classify.class_of classify-classify.classified classify-account.is_past classify-account.alert_owed classify-account.type_owed classify-account.sealed_owed classify-account.is_dropped classify-account.plain_owed classify-account.reading_owed history-receiver.begin_owed base-bits.bit base-choose.choose base-choose.both base-choose.either base-parts.splice window-used.expected window-window.verdict window-window.marking sequence-sequence.own sequence-sequence.below sequence-sequence.above sequence-sequence.nearest record-record.header_length record-record.fragment_len record-record.partial_of record-record.parse_ciphertext record-record.is_type record-record.is_version record-record.is_plaintext record-record.parse_plaintext record-record.parsed record-record.plaintext_header record-record.unified_header dtls-aead-nonce.nonce_of incoming-inner.inner_of recv-keys-keys.fits recv-keys-keys.last_fit recv-keys-keys.find recv-keys-keys.two recv-keys-keys.resolve recv-keys-keys.was_found recv-keys-keys.is_keyed recv-keys-keys.marked recv-keys-keys.app_one recv-keys-keys.apps recv-keys-keys.windows_sound recv-keys-keys.keys_sound recv-keys-keys.is_full recv-keys-keys.installed recv-keys-keys.left_at recv-keys-keys.left datagram-datagram.ask_sound datagram-datagram.ask_keyed datagram-datagram.opening_sound datagram-datagram.question_sound datagram-datagram.is_sound datagram-datagram.counted records-records.locked_step records-records.sealed_step records-records.step_of records-records.opening_asked records-records.asked_again records-records.asking records-records.read_step mask-reply-mask.unmasked mask-reply-mask.rebuilt mask-reply-mask.judged mask-reply-mask.masked_at mask-reply-mask.masked_by mask-reply-mask.masking mask-reply-mask.mask_step opening-reply-opening.typed opening-reply-opening.opened_at opening-reply-opening.opened_by opening-reply-opening.openings opening-reply-opening.opened_step opening-reply-opening.cancelled_ask opening-reply-opening.cancelled receiving-receiving.fresh_of receiving-receiving.key_of receiving-receiving.leaving receiving-receiving.removed_by receiving-receiving.remove_of receiving-receiving.encrypt_of receiving-receiving.release_of receiving-receiving.begin_of queue-laid.trailer_of queue-laid.record_len queue-laid.record_bytes queue-queue.is_setting queue-queue.is_sound queue-queue.is_ready queue-queue.slot_of queue-queue.last_len queue-queue.tail_of queue-queue.place_of queue-queue.grown queue-queue.laid queue-queue.start_of send-keys-keys.no_epoch send-keys-keys.no_keys send-keys-keys.is_usable send-keys-keys.is_keyed send-keys-keys.next_of send-keys-keys.iv_of send-keys-keys.used send-keys-keys.sealed_up_to send-keys-keys.key_answer send-keys-keys.keyed outgoing-send.waits_behind outgoing-send.laid_state outgoing-send.laid_memory outgoing-send.send_answer outgoing-send.send_state outgoing-send.send_memory outgoing-state.no_waiting outgoing-state.fresh_sending outgoing-state.started outgoing-state.is_content_type outgoing-state.is_allowed outgoing-state.keying_state sealing-sealing.is_span sealing-sealing.is_held sealing-sealing.is_asked sealing-sealing.part_start sealing-sealing.question_of sealing-sealing.part_of sealing-sealing.is_put sealing-sealing.put_memory sealing-sealing.masked_header sealing-sealing.behind_oldest sealing-sealing.seal_answer sealing-sealing.sealed_state sealing-sealing.sealed_memory sealing-seek.nth_of sealing-seek.beyond sealing-seek.passed sealing-seek.found_at sealing-seek.step_of sealing-seek.seek_step sealing-seek.seek sealing-take.next_slot sealing-take.take_answer sealing-take.take_state sealing-take.take_buffer flight-flight.entry_of flight-flight.fresh_flight flight-flight.is_kept flight-flight.begun flight-flight.saved_with flight-flight.saved_memory flight-save.save_answer flight-save.save_state flight-save.save_queue flight-save.save_kept flight-status.unmarked_after history-account.upd history-account.key_owed history-account.keys history-account.resolves_to history-account.sealed_size history-account.plain_size history-account.record_size history-account.good_plain history-receiver.removed_from history-receiver.removed history-receiver.begun history-receiver.after_read history-receiver.after_mask history-receiver.after_open history-receiver.verdict_of process-ack-ack.is_formed process-ack-ack.is_pair process-ack-ack.is_named process-ack-ack.is_remembered process-ack-ack.is_acked process-ack-ack.with_mark process-ack-ack.mark_at process-ack-ack.marks_after process-ack-ack.tally_with process-ack-ack.tally_after process-ack-ack.emptied process-ack-ack.acked process-ack-status.newly_marked acks-acks.fresh_notes acks-acks.noted acks-acks.forgotten acks-acks.ack_epoch acks-acks.pair_of acks-acks.pairs_of acks-acks.ack_content acks-acks.notice_state acks-acks.notice_memory acks-acks.ack_answer acks-acks.ack_sent acks-acks.sent_ack acks-acks.ack_memory resend-resend.with_number resend-resend.can_remember resend-resend.renewed resend-resend.renewed_if resend-resend.sent_again resend-resend.again_at resend-resend.again_after resend-resend.resend_state resend-resend.resend_queue resend-tests.remembers resend-tests.has_room resend-tests.passes resend-tests.all_pass resend-tests.joined resend-tests.tail_after resend-tests.count_after resend-tests.is_over resend-tests.is_spent resend-tests.any_spent resend-tests.closed_state resend-tests.fit_answer resend-tests.resend_answer ends-sender.lends messages-cut.epoch_of messages-cut.piece_size messages-cut.cut_next messages-cut.pieces messages-cut.plan_reach messages-message.content_of messages-message.piece_of messages-message.send_all messages-message.message_answer messages-message.message_state messages-message.message_queue messages-message.message_kept handshake-header.header_bytes ends-ledger.joins ends-ledger.lays ends-ledger.is_old ends-ledger.key_number ends-ledger.keyed ends-ledger.is_usable ends-ledger.is_type ends-ledger.is_allowed ends-ledger.has_keys ends-ledger.has_room ends-ledger.queue_number ends-ledger.flight_number ends-ledger.send_number ends-ledger.saves ends-ledger.save_number ends-ledger.piece_size ends-ledger.saves_on ends-ledger.pieces ends-ledger.posted ends-ledger.message_number ends-ledger.known ends-ledger.sends_again ends-ledger.again ends-ledger.resent ends-ledger.is_spent ends-ledger.resend_number ends-ledger.is_formed ends-ledger.names_in ends-ledger.is_over ends-ledger.acked_by ends-ledger.cleared ends-ledger.ack_reply ends-ledger.acking ends-ledger.after ends-ledger.sent_by
opened = tt

settings : Side → Setting
settings s = record { mtu = 576; limit = 1; min = 16; queue = replicate 576 0; kept = replicate 6912 0 }

abbrev says : Side → SendCall → Event
says s c = record { side = s; deed = sending c }

abbrev hears : Side → Call → Event
hears s c = record { side = s; deed = receiving c }

-- the oldest record is sealed under a cipher that appends sixteen sevens, and its datagram taken
abbrev leaves : Side → List ℕ → List Event → List Event
leaves s x rest =
    says s (fill· (x ++ replicate tag_size 7)) ∷ says s (sealed· (length x + tag_size) (1 ∷ 2 ∷ [])) ∷ says s (take· (replicate 576 0)) ∷ rest

-- its wire, by epoch 2 and number
abbrev wire : ℕ → List ℕ → List ℕ
wire n x = masked_header 2 n (length x + tag_size) (1 ∷ 2 ∷ []) ++ (x ++ replicate tag_size 7)

-- it arrives, is unmasked and opened
abbrev arrives : Side → ℕ → List ℕ → List Event → List Event
arrives s n x rest =
    hears s (begin· (wire n x)) ∷ hears s read· ∷ hears s (mask· (1 ∷ 2 ∷ [])) ∷ hears s (write· x) ∷ hears s (open· (Some (length x))) ∷ rest

-- an ACK of number 0 in epoch 2
abbrev ack_of : List ℕ
ack_of = 0 ∷ 16 ∷ replicate 7 0 ++ (2 ∷ replicate 8 0)

-- both ends are keyed in both directions; the post's record is sent as number 0 and again as number 1; only the first arrives; the gateway
-- acknowledges it, and the post deals with the ACK
talk : List Event
talk =
    says post (key_send· 2 (replicate 12 1)) ∷ hears gateway (key· 2 (replicate 12 1)) ∷ hears gateway encrypt· ∷ says gateway (key_send· 2 (replicate 12 2))
    ∷ hears post (key· 2 (replicate 12 2)) ∷ hears post encrypt· ∷ says post (save· 2 22 (5 ∷ []))
    ∷ leaves post (5 ∷ 22 ∷ [])
    (says post resend·
    ∷ leaves post (5 ∷ 22 ∷ [])
    (arrives gateway 0 (5 ∷ 22 ∷ [])
    (says gateway (note· 2 0) ∷ says gateway send_ack·
    ∷ leaves gateway (ack_of ++ (26 ∷ []))
    (arrives post 0 (ack_of ++ (26 ∷ [])) (record { side = post; deed = dealing } ∷ [])))))

-- handed over at the gateway: number 0; at the post: the ACK; the saved record, sent under both numbers, counts as acknowledged
talk-hands : ((run (fresh-pair settings) talk gateway).into.into.handed 2 ≡ record { num = 0; type = 22; content = 5 ∷ [] } ∷ [])
    × ((run (fresh-pair settings) talk post).into.into.handed 2 ≡ record { num = 0; type = 26; content = ack_of } ∷ [])
    × ((run (fresh-pair settings) talk post).dealings.account ≡ record { pending = none; close = none; made = 1; turns = 1 })
    × ((run (fresh-pair settings) talk post).cleared ≡ record { epoch = 2; type = 22; content = 5 ∷ []; sendings = 1 ∷ 0 ∷ []; acked = true } ∷ [])
unfolding opened settings talk
talk-hands = (refl, refl, refl, refl)

-- ---- its premises are met

one_mask : Side → Masks
one_mask s e l = 1 ∷ 2 ∷ []

abbrev sealed_at : ℕ → ℕ → List ℕ → Sealed
sealed_at n t c = record {
  num = n;
  type = t;
  content = c;
  header = unified_header 2 n (length c + sealed_tail);
  cipher = c ++ (t ∷ replicate tag_size 7);
  wire = wire n (c ++ (t ∷ []));
}

-- the ACK names number 0 of epoch 2
named : (handed : ℕ → List Handed) (h : Handed) → Mem h (handed 2) → h.num ≡ 0 → FairAck handed ack_of
unfolding ends-ledger.names_in ends-ledger.is_formed base-choose.choose base-choose.both
named handed h m z k n two =
    mem-by n (λ (p : k ≡ record { epoch = 2; num = 0 }). subst (λ (v : Name). (g : Handed) × Mem g (handed v.epoch) × (g.num ≡ v.num)) (sym p) (h, m, z)) (λ o. elim o [ ])

talk-honest : Honest one_mask (fresh-pair settings) talk
unfolding opened settings talk one_mask
talk-honest = (
  (omega arith, tt),
  (
    tt,
    (
      tt,
      (
        (omega arith, tt),
        (
          tt,
          (
            tt,
            (
              (tt, tt),
              (
                (tt, tt),
                (
                  (λ right. (refl, refl), tt),
                  (
                    (tt, tt),
                    (
                      (tt, tt),
                      (
                        (tt, tt),
                        (
                          (λ right. (refl, refl), tt),
                          (
                            (tt, tt),
                            (
                              tt,
                              (
                                tt,
                                (
                                  (refl, λ s. refl),
                                  (
                                    tt,
                                    (
                                      λ right. yes_fair (sealed_at 1 22 (5 ∷ []) ∷ sealed_at 0 22 (5 ∷ []) ∷ []) (sealed_at 0 22 (5 ∷ [])) (there (here refl)) refl _ refl,
                                      (
                                        (tt, tt),
                                        (
                                          (tt, tt),
                                          (
                                            (tt, tt),
                                            (
                                              (λ right. (refl, refl), tt),
                                              (
                                                (tt, tt),
                                                (
                                                  tt,
                                                  (
                                                    tt,
                                                    (
                                                      (refl, λ s. refl),
                                                      (
                                                        tt,
                                                        (
                                                          λ right. yes_fair (sealed_at 0 26 ack_of ∷ []) (sealed_at 0 26 ack_of) (here refl) refl _ refl,
                                                          ((tt, named _ (record { num = 0; type = 22; content = 5 ∷ [] }) (here refl) refl), tt),
                                                        ),
                                                      ),
                                                    ),
                                                  ),
                                                ),
                                              ),
                                            ),
                                          ),
                                        ),
                                      ),
                                    ),
                                  ),
                                ),
                              ),
                            ),
                          ),
                        ),
                      ),
                    ),
                  ),
                ),
              ),
            ),
          ),
        ),
      ),
    ),
  ),
)

-- ---- so all that is claimed holds of it

ready : (s : Side) → Startable (settings s)
unfolding settings
ready s = record { low = omega arith; high = omega arith; some = omega arith; most = omega arith; min = omega arith; room = leb-true (1 * 576) (length {A = ℕ} (replicate 576 0)) refl }

talk-holds : (s : Side) (e : ℕ) → Holds (run (fresh-pair settings) talk) s e
talk-holds = every_list settings ready one_mask talk talk-honest

-- ---- calls refused, each by its number, and a message

abbrev iv : List ℕ
iv = replicate 12 1

-- the host's bytes for the message's record, which then has 31 bytes behind its header: a handshake header, 7 and 8, the type, sixteen sevens
abbrev two_bytes : List ℕ
two_bytes = 11 ∷ 0 ∷ 0 ∷ 2 ∷ 0 ∷ 0 ∷ 0 ∷ 0 ∷ 0 ∷ 0 ∷ 0 ∷ 2 ∷ 7 ∷ 8 ∷ []

abbrev calls : List SendCall
calls =
    -- 13: an epoch that cannot be keyed; 17: epoch 2 without keys; 13: an application epoch that is not keyed
    key_send· 1 iv ∷ send· 2 23 (5 ∷ []) ∷ send· 3 23 (5 ∷ [])
    -- done; 14: a type that is not sent; 15: no sealing waits; 13: the same epoch again
    ∷ key_send· 2 iv ∷ send· 2 99 (5 ∷ []) ∷ sealed· 31 (1 ∷ 2 ∷ []) ∷ key_send· 2 iv
    -- done: a message of two bytes; 23: it waits to be sealed; 14: a body over 16,384 bytes; 19: a second piece needs a second datagram
    ∷ message· 11 (7 ∷ 8 ∷ []) ∷ take· (replicate 36 0) ∷ message· 11 (replicate 16385 0) ∷ message· 1 (replicate 545 0)
    -- the host seals; 15: another length; done
    ∷ fill· (two_bytes ++ (22 ∷ replicate tag_size 7)) ∷ sealed· 30 (1 ∷ 2 ∷ []) ∷ sealed· 31 (1 ∷ 2 ∷ [])
    -- 16: 36 bytes are needed; done: 36 bytes; done: none is left; done: noted
    ∷ take· (replicate 35 0) ∷ take· (replicate 36 0) ∷ take· (replicate 36 0) ∷ note· 2 0 ∷ []

abbrev all_said : List SendCall → List Event
all_said [] = []
all_said (c ∷ cs) = says post c ∷ all_said cs

abbrev replies : List Said → List Reply
replies [] = []
replies (a ∷ rest) = a.reply ∷ replies rest

abbrev pair : ℕ → ℕ → Reply
pair n told = record { number = n; told = told }

-- what the post is told in the talk, the last first: the ACK newly acknowledges one record; a datagram of 23 bytes is taken twice, the second
-- behind a resend that sends one record
talk-told : replies (run (fresh-pair settings) talk post).said
    ≡ pair 0 1 ∷ pair 0 23 ∷ only 0 ∷ only 0 ∷ pair 0 1 ∷ pair 0 23 ∷ only 0 ∷ only 0 ∷ only 0 ∷ only 0 ∷ []
unfolding opened settings talk
talk-told = refl

refusals : List Event
refusals = all_said calls

-- what the host is told, the last first; what was sent in epoch 2; and what was taken, which is that record sealed and masked
refusals-told : (replies (run (fresh-pair settings) refusals post).said
    ≡ pair 0 1 ∷ pair 0 0 ∷ pair 0 36 ∷ pair 16 36 ∷ only 0 ∷ only 15 ∷ only 0 ∷ only 19 ∷ only 14 ∷ only 23 ∷ only 0 ∷ only 13 ∷ only 15 ∷ only 14 ∷ only 0 ∷ only 13 ∷ only 17 ∷ only 13 ∷ [])
    × ((run (fresh-pair settings) refusals post).out.books.sent 2 ≡ record { num = 0; type = 22; content = two_bytes } ∷ [])
    × ((run (fresh-pair settings) refusals post).out.taken ≡ wire 0 (two_bytes ++ (22 ∷ [])) ∷ [])
unfolding opened settings refusals
refusals-told = (refl, refl, refl)

refusals-honest : Honest one_mask (fresh-pair settings) refusals
unfolding opened settings refusals one_mask
refusals-honest = (
  (omega arith, tt),
  (
    (tt, tt),
    (
      (tt, tt),
      (
        (omega arith, tt),
        (
          (tt, tt),
          (
            (tt, tt),
            (
              (omega arith, tt),
              (
                (tt, tt),
                (
                  (tt, tt),
                  (
                    (tt, tt),
                    (
                      (tt, tt),
                      (
                        (tt, tt),
                        (
                          (λ right. (refl, refl), tt),
                          ((λ right. (refl, refl), tt), ((tt, tt), ((tt, tt), ((tt, tt), ((tt, tt), tt))))),
                        ),
                      ),
                    ),
                  ),
                ),
              ),
            ),
          ),
        ),
      ),
    ),
  ),
)

refusals-holds : (s : Side) (e : ℕ) → Holds (run (fresh-pair settings) refusals) s e
refusals-holds = every_list settings ready one_mask refusals refusals-honest

-- ---- 01's rows on cutting, by the account

abbrev in_epoch_two : Ledger
in_epoch_two = keyed (new_ledger 576 16 6912) 2

abbrev content_sizes : List Sent → List ℕ
content_sizes [] = []
content_sizes (r ∷ rs) = length r.content ∷ content_sizes rs

abbrev datagram_sizes : List (List Item) → List ℕ
datagram_sizes [] = []
datagram_sizes (d ∷ ds) = total d ∷ datagram_sizes ds

-- "MTU 576, empty queue, epoch 2, body 1,000: pieces 542 and 458, datagrams 576 and 492. .. Then body 100: pieces 50 and 50", each behind 12 bytes of
-- header
rows_cut : let first = posted in_epoch_two 11 (replicate 1000 0) in
    let second = posted first.ledger 11 (replicate 100 0) in
    (content_sizes first.sent ≡ (12 + 542) ∷ (12 + 458) ∷ []) × (datagram_sizes first.ledger.queue ≡ 576 ∷ 492 ∷ []) × (content_sizes second.sent ≡ (12 + 50) ∷ (12 + 50) ∷ [])
unfolding opened
rows_cut = (refl, refl, refl)

-- the edges of 18, 20, 21 and 22: the last that is done, and the first that is refused
abbrev sent_before : ℕ → Ledger
sent_before n = with_keys in_epoch_two true 0 (λ e. n)

abbrev kept_with : ℕ → Kept
kept_with n = record { epoch = 2; type = 22; content = 5 ∷ []; sendings = replicate n 0; acked = false }

edges : (send_number (sent_before 281474976710654) 2 23 1 ≡ 0) × (send_number (sent_before 281474976710655) 2 23 1 ≡ 20)
    × (save_number (with_saved in_epoch_two (replicate 11 (kept_with 1))) 2 23 (5 ∷ []) ≡ 0) × (save_number (with_saved in_epoch_two (replicate 12 (kept_with 1))) 2 23 (5 ∷ []) ≡ 18)
    × (message_number (with_messages in_epoch_two 65534) 11 [] ≡ 0) × (message_number (with_messages in_epoch_two 65535) 11 [] ≡ 21)
    × (resend_number (with_saved in_epoch_two (kept_with 32 ∷ [])) ≡ 0) × (resend_number (with_saved in_epoch_two (kept_with 33 ∷ [])) ≡ 22)
unfolding opened
edges = (refl, refl, refl, refl, refl, refl, refl, refl)

-- ---- readings dealt with: of a datagram with a fatal alert and a handshake record behind it the alert is told and the rest left; then, of another, a close
-- at number 5, a handshake record of number 5, which is not beyond it, one of number 6, which is, and a second close of number 4, which is ignored

abbrev plain_record : ℕ → ℕ → List ℕ → List ℕ
plain_record t n c = t ∷ 0xFE ∷ 0xFD ∷ 0 ∷ 0 ∷ 0 ∷ 0 ∷ 0 ∷ 0 ∷ 0 ∷ n ∷ 0 ∷ length c ∷ c

abbrev deals : Side → Event
deals s = record { side = s; deed = dealing }

dealt : List Event
dealt =
    hears gateway (begin· (plain_record 21 0 (2 ∷ 40 ∷ []) ++ plain_record 22 1 (7 ∷ [])))
    ∷ hears gateway read· ∷ deals gateway ∷ hears gateway read· ∷ deals gateway
    ∷ hears gateway
    (begin· (plain_record 21 5 (1 ∷ 0 ∷ []) ++ plain_record 22 5 (7 ∷ []) ++ plain_record 22 6 (8 ∷ []) ++ plain_record 21 4 (1 ∷ 0 ∷ [])))
    ∷ hears gateway read· ∷ deals gateway ∷ hears gateway read· ∷ deals gateway ∷ hears gateway read· ∷ deals gateway ∷ hears gateway read· ∷ deals gateway
    ∷ []

abbrev replies_of : List Told → List Dealt
replies_of [] = []
replies_of (t ∷ ts) = t.reply ∷ replies_of ts

-- the last first
dealt-told : let p = (run (fresh-pair settings) dealt gateway).dealings in
    (replies_of p.told
    ≡ record { verdict = ignored; content = 1 ∷ 0 ∷ [] }
    ∷ record { verdict = beyond; content = 8 ∷ [] }
    ∷ record { verdict = handshake; content = 7 ∷ [] }
    ∷ record { verdict = closes; content = 1 ∷ 0 ∷ [] }
    ∷ record { verdict = noneWaits; content = [] }
    ∷ record { verdict = tells 40; content = 2 ∷ 40 ∷ [] }
    ∷ [])
    × (p.account.close ≡ some (record { epoch = 0; number = 5 })) × (p.account.turns ≡ 4) × (p.missed ≡ [])
unfolding opened settings dealt
dealt-told = (refl, refl, refl, refl)

dealt-honest : Honest one_mask (fresh-pair settings) dealt
unfolding opened settings dealt one_mask
dealt-honest = (tt, (tt, (tt, (tt, (tt, (tt, (tt, (tt, (tt, (tt, (tt, (tt, (tt, (tt, tt))))))))))))))

dealt-holds : (s : Side) (e : ℕ) → Holds (run (fresh-pair settings) dealt) s e
dealt-holds = every_list settings ready one_mask dealt dealt-honest
