-- Two worked lists of calls of the C library whose premises are met, computed: a record is keyed, sent, sealed and taken at the post, and read, unmasked,
-- opened and dealt with as a handshake record at the gateway; a handshake message is put together at the gateway. The words behind each call are given. Assumes nothing.
use Rattle.std.specs.Prelude.{Ok, ℕ, suc, ◌≤◌, length, replicate, set, true, false, List, [], ◌∷◌, ◌++◌, ◌≡◌, refl}
use Rattle.std.proofs.Common.{arith, le-ltb, sym}
use Rattle.std.proofs.lemmas.Bool.{false≢true}
use mathlib.Core.List.Memᴰ.{head as here}
use Rattle.std.proofs.Math.Option.{none}
use Rattle.std.proofs.Math.Path.{ap}
use Rattle.base.specs.Bits as base-bits
use Rattle.base.specs.Choose as base-choose
use Rattle.base.specs.Choose.{if_false}
use Rattle.base.specs.Every as base-every
use Rattle.base.specs.Parts as base-parts
use Rattle.window.specs.Used as window-used
use Rattle.window.specs.Window as window-window
use Rattle.sequence.specs.Sequence as sequence-sequence
use Rattle.record.specs.Record as record-record
use Rattle.dtls_aead.specs.Nonce as dtls-aead-nonce
use Rattle.incoming.specs.Inner as incoming-inner
use Rattle.recv_keys.specs.Keys as recv-keys-keys
use Rattle.datagram.specs.Datagram as datagram-datagram
use Rattle.datagram.specs.declared.Ask.{Ask}
use Rattle.datagram.specs.declared.Question.TheVariants as question
use Rattle.records.specs.Records as records-records
use Rattle.mask_reply.specs.Mask as mask-reply-mask
use Rattle.opening_reply.specs.Opening as opening-reply-opening
use Rattle.receiving.specs.Receiving as receiving-receiving
use Rattle.queue.specs.Laid as queue-laid
use Rattle.queue.specs.Queue as queue-queue
use Rattle.send_keys.specs.Keys as send-keys-keys
use Rattle.outgoing.specs.Send as outgoing-send
use Rattle.outgoing.specs.State as outgoing-state
use Rattle.sealing.specs.Sealing as sealing-sealing
use Rattle.sealing.specs.Seek as sealing-seek
use Rattle.taking.specs.Take as sealing-take
use Rattle.words.specs.Packed as packed
use Rattle.recv_words.specs.Words as recv-words
use Rattle.recv_words.specs.Entries.{fresh_words}
use Rattle.recv_calls.specs.Calls as recv-calls
use Rattle.recv_calls.specs.Flat as recv-flat
use Rattle.recv_calls.specs.declared.HuskReading.{HuskReading}
use Rattle.send_words.specs.Words as send-words
use Rattle.send_calls.specs.declared.HuskSealing.{HuskSealing}
use Rattle.flight_words.specs.Words as flight-words
use Rattle.classify.specs.Classify as classify
use Rattle.classify.specs.Classify.{opened-kind, waiting, cleared, fresh as noneWaiting}
use Rattle.classify_calls.specs.Calls as classify-calls
use Rattle.classify_calls.specs.declared.HuskClass.{HuskClass}
use Rattle.classify_theorem.specs.Account as classify-account
use Rattle.handshake.specs.Header.{header_at, parse_header}
use Rattle.assembly.specs.declared.Piece.TheVariants as piece
use Rattle.assembly.specs.Spans.{expected-at, type_at, total-at, size-at, place_at, length_at, within, covered, all_covered, is_whole, is_same, is_shared, all_shared}
use Rattle.assembly.specs.Assembly.{Outcome, outcome, is_sound, fresh, held, piece_at, is_fit, is_alike, is_agreed, finished, offered, read_at, taken}
use Rattle.assembly_calls.specs.Calls.{flat_piece}
use Rattle.assembly_calls.specs.declared.HuskPiece.{HuskPiece}
use Rattle.assembly_theorem.specs.Account.{Fragment, fragment_in, covers}
use Rattle.history_theorem.specs.Account as history-account
use Rattle.history_theorem.specs.Claim.{Masks}
use Rattle.history_theorem.proofs.Example.{yes_fair}
use Rattle.history_theorem.specs.Receiver as history-receiver
use Rattle.history_theorem.specs.Receiver.{Sealed}
use Rattle.ends_theorem.specs.Claim.{Startable}
use Rattle.ends_theorem.specs.Ledger as ends-ledger
use Rattle.ends_theorem.specs.Sender as ends-sender
use Rattle.ends_theorem.specs.World.{Side, post, gateway, Setting}
use Rattle.hosts_theorem.specs.Memory.{husk_receiving_key, husk_receiving_enable_encryption, husk_receiving_begin_read, husk_receiving_mask, husk_receiving_opened, host_writes, husk_sending_key, husk_sending_send, husk_sending_sealed, husk_sending_take}
use Rattle.hosts_theorem.specs.Log as hosts-log
use Rattle.hosts_theorem.specs.Log.{Act, inward, husk_sending_sealing, outward, host_seals, husk_assembly_begin, husk_assembly_take, husk_receiving_classify}
use Rattle.hosts_theorem.specs.Claim.{Hosts, CCall, runs, AllMade, AllFair, Started, Refines}
use Rattle.hosts_theorem.proofs.Starts.{sending_words, first_host, starts}
use Rattle.hosts_theorem.proofs.Theorem.{every_list_of_calls}

-- every definition that the list computes with
unfoldable pub opened : Unit {0}
unfolding base-bits.bit base-choose.choose base-choose.both base-choose.either base-parts.splice window-used.expected window-window.verdict window-window.marking sequence-sequence.own sequence-sequence.below sequence-sequence.above sequence-sequence.nearest record-record.header_length record-record.fragment_len record-record.partial_of record-record.parse_ciphertext record-record.is_type record-record.parsed record-record.unified_header dtls-aead-nonce.nonce_of incoming-inner.inner_of recv-keys-keys.fits recv-keys-keys.last_fit recv-keys-keys.find recv-keys-keys.two recv-keys-keys.resolve recv-keys-keys.was_found recv-keys-keys.is_keyed recv-keys-keys.marked recv-keys-keys.app_one recv-keys-keys.apps recv-keys-keys.windows_sound recv-keys-keys.keys_sound recv-keys-keys.is_full recv-keys-keys.installed datagram-datagram.ask_sound datagram-datagram.ask_keyed datagram-datagram.opening_sound datagram-datagram.question_sound datagram-datagram.is_sound datagram-datagram.counted records-records.locked_step records-records.sealed_step records-records.step_of records-records.opening_asked records-records.asked_again records-records.asking records-records.read_step mask-reply-mask.unmasked mask-reply-mask.rebuilt mask-reply-mask.judged mask-reply-mask.masked_at mask-reply-mask.masked_by mask-reply-mask.masking mask-reply-mask.mask_step opening-reply-opening.typed opening-reply-opening.opened_at opening-reply-opening.opened_by opening-reply-opening.openings opening-reply-opening.opened_step receiving-receiving.fresh_of receiving-receiving.key_of receiving-receiving.encrypt_of receiving-receiving.begin_of queue-laid.trailer_of queue-laid.record_len queue-laid.record_bytes queue-queue.is_setting queue-queue.is_sound queue-queue.is_ready queue-queue.slot_of queue-queue.last_len queue-queue.tail_of queue-queue.place_of queue-queue.grown queue-queue.laid queue-queue.start_of send-keys-keys.no_epoch send-keys-keys.no_keys send-keys-keys.is_usable send-keys-keys.is_keyed send-keys-keys.next_of send-keys-keys.iv_of send-keys-keys.used send-keys-keys.sealed_up_to send-keys-keys.key_answer send-keys-keys.keyed outgoing-send.waits_behind outgoing-send.laid_state outgoing-send.laid_memory outgoing-send.send_answer outgoing-send.send_state outgoing-send.send_memory outgoing-state.no_waiting outgoing-state.fresh_sending outgoing-state.started outgoing-state.is_content_type outgoing-state.is_allowed outgoing-state.keying_state sealing-sealing.is_span sealing-sealing.is_held sealing-sealing.is_asked sealing-sealing.part_start sealing-sealing.question_of sealing-sealing.masked_header sealing-sealing.behind_oldest sealing-sealing.seal_answer sealing-sealing.sealed_state sealing-sealing.sealed_memory sealing-seek.nth_of sealing-seek.beyond sealing-seek.passed sealing-seek.found_at sealing-seek.step_of sealing-seek.seek_step sealing-seek.seek sealing-take.next_slot sealing-take.take_answer sealing-take.take_state sealing-take.take_buffer packed.iv_of recv-words.entries_of recv-words.question_of recv-words.is_flat send-words.lows_from send-words.is_flat recv-calls.first_reading recv-calls.first_state recv-flat.opening_of history-account.upd history-account.key_owed history-account.keys history-account.resolves_to history-account.sealed_size history-account.plain_size history-account.record_size history-account.good_plain history-receiver.begin_owed ends-sender.lends ends-ledger.joins ends-ledger.lays ends-ledger.is_old ends-ledger.key_number ends-ledger.keyed ends-ledger.is_usable ends-ledger.is_type ends-ledger.is_allowed ends-ledger.has_keys ends-ledger.queue_number ends-ledger.send_number ends-ledger.after ends-ledger.sent_by hosts-log.reason_in hosts-log.reading_of hosts-log.class_verdict hosts-log.reply_in flight-words.entries_of flight-words.flat_to classify.is_inside classify.is_sound classify.is_after classify.is_beyond classify.is_guarded classify.by_type classify.class_of classify.classified classify-calls.noted_by classify-calls.heeded classify-calls.class_in classify-account.is_past classify-account.is_dropped classify-account.type_owed classify-account.sealed_owed classify-account.reading_owed
opened = tt

-- ---- the calls

unfoldable pub settings : Side → Setting
settings s = record { mtu = 576; limit = 1; min = 16; queue = replicate 576 0; kept = [] }

abbrev pub iv : List ℕ
iv = replicate 12 1

-- the words of sending: keyed; a record queued that waits to be sealed; sealed; taken
abbrev handshake : ℕ → ℕ → List ℕ → List ℕ
handshake next sealed w = send-words.put_epoch send-words.handshake-at send-words.handshake-iv-at (record { epoch = 2; iv = iv; next = next; sealed = sealed }) w

abbrev pub v₁ : List ℕ
v₁ = handshake 0 0 (sending_words 576 1)

abbrev pub v₂ : List ℕ
v₂ =
    send-words.put_waiting (record { any = true; slot = 0; start = 0; length = 18; epoch = 2; number = 0 })
    (handshake 1 0 (set (set v₁ send-words.count_at 1) (send-words.length_at 0) 23))

abbrev pub v₃ : List ℕ
v₃ = send-words.put_waiting (record { any = false; slot = 0; start = 0; length = 0; epoch = 0; number = 0 }) (handshake 1 1 v₂)

abbrev pub v₄ : List ℕ
v₄ = set v₃ send-words.count_at 0

-- the words of receiving: keyed; encrypted; a mask asked; an opening asked; opened
abbrev pub u₁ : List ℕ
u₁ =
    recv-words.put_entry 0 (record { epoch = 2; iv = iv; replay = record { max_seq = 0; window = 0 } })
    (set (set (fresh_words 16) recv-words.count_at 1) recv-words.highest-at 2)

abbrev pub u₂ : List ℕ
u₂ = set u₁ recv-words.encrypted-at 1

abbrev ask : Ask
ask = record { epoch = 2; s_flag = true; header_len = 5; length = 18 }

abbrev pub u₃ : List ℕ
u₃ = recv-words.put_datagram (record { size = 23; at = 0; readings = 0; question = question.Mask ask }) u₂

abbrev pub u₄ : List ℕ
u₄ = recv-words.put_datagram (record { size = 23; at = 0; readings = 0; question = question.Opening ask 0 }) u₂

abbrev pub u₅ : List ℕ
u₅ = recv-words.put_datagram (record { size = 23; at = 23; readings = 1; question = question.Nothing }) (recv-words.put_window 0 (record { max_seq = 0; window = 1 }) u₄)

-- content and type of the record, and what a cipher that appends sixteen sevens makes of them; its header, and that with the mask 1, 2
abbrev pub inner : List ℕ
inner = 5 ∷ 22 ∷ []

abbrev pub cipher : List ℕ
cipher = inner ++ replicate 16 7

abbrev pub header : List ℕ
header = 46 ∷ 0 ∷ 0 ∷ 0 ∷ 18 ∷ []

abbrev wire : List ℕ
wire = 46 ∷ 1 ∷ 2 ∷ 0 ∷ 18 ∷ cipher

-- in the queue, where the tag's place has the epoch and the number until it is sealed, and in the buffer of 576 bytes
abbrev pub alone : List ℕ → List ℕ
alone d = d ++ replicate 553 0

abbrev pub seal_asked : HuskSealing
seal_asked = record { kind = 2; refusal = 0; epoch = 2; number = 0; start = 5; length = 18; nonce = iv; header = header }

-- a mask asked
abbrev pub mask_asked : HuskReading
mask_asked = record {
  kind = 6;
  refusal = 0;
  content_type = 0;
  epoch = 2;
  number = 0;
  start = 5;
  header_len = 0;
  length = 16;
  nonce = replicate 12 0;
}

-- an opening asked
abbrev pub open_asked : HuskReading
open_asked = record {
  kind = 7;
  refusal = 0;
  content_type = 0;
  epoch = 2;
  number = 0;
  start = 0;
  header_len = 5;
  length = 18;
  nonce = iv;
}

-- the record opened
abbrev pub handed_over : HuskReading
handed_over = record {
  kind = 5;
  refusal = 0;
  content_type = 22;
  epoch = 2;
  number = 0;
  start = 5;
  header_len = 0;
  length = 1;
  nonce = replicate 12 0;
}

-- no reading waits; the record opened waits; dealt with
abbrev pub no_reading : List ℕ
no_reading = noneWaiting

abbrev pub one_waits : List ℕ
one_waits = waiting opened-kind 22 2 0 5 1 no_reading

abbrev dealt_with : HuskClass
dealt_with = record { kind = 8; refusal = 0; description = 0; marked = 0; unacknowledged = 0; saved = 0; start = 5; length = 1 }

abbrev by : Side → Act → CCall
by s a = record { side = s; act = a }

talk : List CCall
talk =
    by post (outward (husk_sending_key 0 v₁ 2 iv))
    ∷ by post (outward (husk_sending_send 0 v₂ 2 22 (5 ∷ []) (alone (header ++ inner ++ 0 ∷ 2 ∷ replicate 14 0))))
    ∷ by post (husk_sending_sealing seal_asked)
    ∷ by post (host_seals seal_asked cipher)
    ∷ by post (outward (husk_sending_sealed 0 v₃ 18 1 2 (alone wire)))
    ∷ by post (outward (husk_sending_take (record { kind = 2; refusal = 0; length = 23 }) v₄ (replicate 576 0) (alone wire)))
    ∷ by gateway (inward (husk_receiving_key 0 u₁ 2 iv) no_reading)
    ∷ by gateway (inward (husk_receiving_enable_encryption 0 u₂) no_reading)
    ∷ by gateway (inward (husk_receiving_begin_read mask_asked u₃ wire) no_reading)
    ∷ by gateway (inward (husk_receiving_mask open_asked u₄ 1 2 (header ++ cipher)) no_reading)
    ∷ by gateway (inward (host_writes open_asked inner) no_reading)
    ∷ by gateway (inward (husk_receiving_opened handed_over u₅ 1 2) one_waits)
    ∷ by gateway (husk_receiving_classify dealt_with u₅ (cleared one_waits) (replicate 73 0) (replicate 384 0))
    ∷ []

unfoldable pub hosts : Hosts
hosts s = first_host (settings s)

-- ---- each meets its contract

talk-made : AllMade hosts talk
unfolding opened settings talk hosts
talk-made = (
  (refl, (refl, refl)),
  (
    ((refl, (refl, refl)), refl),
    (
      refl,
      (
        (refl, refl, refl),
        (
          ((refl, (refl, refl)), refl),
          (
            ((refl, (refl, refl)), refl),
            (
              ((refl, refl, refl), refl),
              (
                ((refl, refl, refl), refl),
                (
                  ((refl, refl, refl), refl),
                  (
                    (((refl, refl, refl), refl), refl),
                    ((((u₄, (refl, refl, refl)), refl, omega arith), refl), (((refl, refl, refl), refl), ((refl, refl, refl, refl, refl, refl), tt))),
                  ),
                ),
              ),
            ),
          ),
        ),
      ),
    ),
  ),
)

-- ---- what is asked of the hosts is met

one_mask : Side → Masks
one_mask s e l = 1 ∷ 2 ∷ []

abbrev sealed_one : Sealed
sealed_one = record { num = 0; type = 22; content = 5 ∷ []; header = header; cipher = cipher; wire = wire }

talk-fair : AllFair one_mask hosts talk
unfolding opened settings talk hosts one_mask
talk-fair = (
  ((omega arith, tt), tt),
  (
    ((tt, tt), tt),
    (
      tt,
      (
        ((tt, tt), tt),
        (
          ((λ right. (refl, refl), tt), tt),
          (
            ((tt, tt), tt),
            (
              (tt, tt),
              (
                (tt, tt),
                (
                  (tt, (tt, tt)),
                  (((refl, λ s. refl), tt), ((tt, tt), ((λ right. yes_fair (sealed_one ∷ []) sealed_one (here refl) refl _ refl, tt), ((tt, tt), tt)))),
                ),
              ),
            ),
          ),
        ),
      ),
    ),
  ),
)

-- ---- so the claim holds of what these hosts saw: the record is handed over and dealt with, the datagram is its bytes, every answer is as owed

in-range : (s : Side) → Startable (settings s)
unfolding settings
in-range s = record { low = omega arith; high = omega arith; some = omega arith; most = omega arith; min = omega arith; room = omega arith }

pub begun : (s : Side) → Started (settings s) (hosts s)
unfolding hosts
begun s = starts (settings s) (in-range s)

talk-refines : Refines one_mask settings hosts talk
talk-refines = every_list_of_calls settings hosts begun one_mask talk talk-made talk-fair

talk-hands : ((runs hosts talk gateway).seen.into.into.handed 2 ≡ record { num = 0; type = 22; content = 5 ∷ [] } ∷ []) × ((runs hosts talk post).seen.out.taken ≡ wire ∷ [])
unfolding opened settings talk hosts
talk-hands = (refl, refl)

talk-deals : let p = (runs hosts talk gateway).seen.dealings in (p.account.turns ≡ 1) × (p.account.pending ≡ none) × (p.missed ≡ [])
unfolding opened settings talk hosts
talk-deals = (refl, refl, refl)

-- ---- a message put together: at a fresh gateway a record is begun that has one piece, of one byte, and the message comes out

-- type 20, total 1, message 0, offset 0, length 1, and its byte
abbrev content : List ℕ
content = 20 ∷ 0 ∷ 0 ∷ 1 ∷ 0 ∷ 0 ∷ 0 ∷ 0 ∷ 0 ∷ 0 ∷ 0 ∷ 1 ∷ 7 ∷ []

abbrev whole_told : HuskPiece
whole_told = record { kind = 5; refusal = 0; msg_type = 20; number = 0; length = 1 }

-- a record of 13 bytes begun
abbrev w₁ : List ℕ
w₁ = set fresh size-at 13

-- message 1 is expected, the record is at its end; what was held stays written
abbrev w₂ : List ℕ
w₂ = set (set (set (set (set w₁ expected-at 1) type_at 20) total-at 1) place_at 13) (length_at 0) 1

put_together : List ℕ → List CCall
put_together rest =
    by gateway (husk_assembly_begin 0 w₁ 13) ∷ by gateway (husk_assembly_take whole_told w₂ content (0 ∷ rest) (7 ∷ rest)) ∷ []

-- over any buffer that is long enough
module _ (rest : List ℕ) (room : 16383 ≤ length rest) where
  comes-out : taken w₁ content (0 ∷ rest) ≡ outcome (Ok (piece.Message 20 0 1)) w₂ (7 ∷ rest)
  unfolding base-choose.choose base-choose.both base-choose.either parse_header header_at within covered all_covered is_whole is_same is_shared all_shared base-every.every base-parts.splice is_sound piece_at is_fit is_alike is_agreed held finished offered read_at taken
  comes-out = if_false _ _ (le-ltb (suc (length rest)) 16384 (omega arith))

  together_made : AllMade hosts (put_together rest)
  unfolding base-choose.choose base-choose.both base-choose.either is_sound settings hosts put_together
  together_made = (
    (refl, refl),
    (
      (
        ap (λ (o : Outcome). flat_piece o.answer) (sym comes-out),
        ap (λ (o : Outcome). o.words) (sym comes-out),
        ap (λ (o : Outcome). o.bytes) (sym comes-out),
      ),
      tt,
    ),
  )

  -- nothing is held yet, so that nothing is asked of the buffer
  together_fair : AllFair one_mask hosts (put_together rest)
  unfolding covers settings hosts put_together
  together_fair = ((tt, tt), ((λ long i e. absurd (false≢true e), tt), tt))

  together_refines : Refines one_mask settings hosts (put_together rest)
  together_refines = every_list_of_calls settings hosts begun one_mask (put_together rest) together_made together_fair

  -- the gateway has seen message 0, of type 20, with the piece's byte
  together_seen : let ms = (runs hosts (put_together rest) gateway).seen.pieces.messages in
      (p : Fragment) × (ms ≡ record { kind = 20; number = 0; body = 7 ∷ []; last = p; earlier = [] } ∷ [])
  unfolding base-choose.choose hosts-log.verdict_in fragment_in settings hosts put_together
  together_seen = (_, refl)
