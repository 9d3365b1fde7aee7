-- Every list of calls of reassembly at one end: what happens at each, what the host sees and enters, and what holds of it.
use Rattle.std.specs.Prelude.{Result, Ok, Err, Bool, true, false, ◌≡◌, ℕ, ◌-◌, ◌≤◌, ◌<◌, ltb, length, get_or, take, drop}
use mathlib.Core.List.{List, [], ◌∷◌, Memᴰ as Mem}
use Rattle.std.proofs.Math.Option.{some}
use Rattle.base.specs.Choose.{choose, both}
use Rattle.assembly.specs.Assembly as assembly
use Rattle.assembly.specs.declared.Piece.{Piece}
use Rattle.assembly.specs.declared.PieceError.{PieceError}
use Rattle.assembly.specs.declared.Piece.TheVariants as piece
use Rattle.assembly.specs.declared.PieceError.TheVariants as refused
use Rattle.assembly_theorem.specs.Account.{longest_body, Fragment, fragment_in, has, byte_in, covers, byte_of, oldest, Account, new_account, Verdict, begun, turned, ended, over, other, same, held, whole, owed, begins, reads_from, after}

-- ---- the calls

-- a record of n bytes is begun; the next piece of it is taken, from content c, over the buffer d that the host lends
pub data PieceCall : Type 0 where
  begin· : ℕ → PieceCall
  take· : List ℕ → List ℕ → PieceCall

-- ---- what the host enters

-- what a call told, and what the account owes it
pub record Told : Type 0 where
  pub reply : Verdict
  pub owed : Verdict

-- a content given, and the place that the account had reached in the record
pub record Given : Type 0 where
  pub content : List ℕ
  pub place : ℕ

-- a piece that a call read, the pieces taken before, what the account owes the call, and the buffer before and behind it
pub record Wrote : Type 0 where
  pub piece : Fragment
  pub earlier : List Fragment
  pub verdict : Verdict
  pub before : List ℕ
  pub behind : List ℕ

-- a message as the host sees it: type and number as told, and as many bytes from the start of the buffer; beside it the pieces that the account has
-- as taken of it, the last and those before it
pub record Out : Type 0 where
  pub kind : ℕ
  pub number : ℕ
  pub body : List ℕ
  pub last : Fragment
  pub earlier : List Fragment

-- one end's reassembly: the words, the buffer as the last call left it, the account, and the lists above, the newest first
pub record Piecing : Type 0 where
  pub words : List ℕ
  pub left : List ℕ
  pub account : Account
  pub told : List Told
  pub given : List Given
  pub wrote : List Wrote
  pub messages : List Out

-- husk_assembly_init's words, and no buffer lent yet
abbrev pub new_piecing : Piecing
new_piecing = record { words = assembly.fresh; left = []; account = new_account; told = []; given = []; wrote = []; messages = [] }

-- ---- a call

-- an answer by what it tells
abbrev pub verdict_of : Result Piece PieceError → Verdict
verdict_of (Err refused.Short) = turned 16
verdict_of (Err refused.Setting) = turned 12
verdict_of (Err refused.Reply) = turned 15
verdict_of (Ok piece.End) = over
verdict_of (Err refused.Malformed) = ended 24
verdict_of (Err refused.Disagrees) = ended 28
verdict_of (Err refused.TooMany) = ended 25
verdict_of (Ok (piece.Passed n)) = other n
verdict_of (Ok piece.Same) = same
verdict_of (Ok piece.Held) = held
verdict_of (Ok (piece.Message t n l)) = whole t n l

-- a message goes into the log as the host sees it
abbrev pub logged : Verdict → Fragment → List Fragment → List ℕ → List Out → List Out
logged begun f fs d ms = ms
logged (turned n) f fs d ms = ms
logged (ended n) f fs d ms = ms
logged over f fs d ms = ms
logged (other n) f fs d ms = ms
logged same f fs d ms = ms
logged held f fs d ms = ms
logged (whole k n l) f fs d ms = record { kind = k; number = n; body = take l d; last = f; earlier = fs } ∷ ms

abbrev pub left_by : List ℕ → List ℕ → List ℕ → List ℕ
left_by left d e = choose (ltb (length d) longest_body) left e

-- a record of n bytes begun, told v: w the words behind it
abbrev pub starts : Piecing → ℕ → Verdict → List ℕ → Piecing
starts p n v w = record {
  words = w;
  left = p.left;
  account = begins p.account n;
  told = record { reply = v; owed = begun } ∷ p.told;
  given = p.given;
  wrote = p.wrote;
  messages = p.messages;
}

-- a piece of content c over the buffer d, told v: w the words behind it, e the buffer
abbrev pub takes : Piecing → List ℕ → List ℕ → Verdict → List ℕ → List ℕ → Piecing
takes p c d v w e = record {
  words = w;
  left = left_by p.left d e;
  account = after p.account c (length d);
  told = record { reply = v; owed = owed p.account c (length d) } ∷ p.told;
  given = record { content = c; place = p.account.place } ∷ p.given;
  wrote =
      record {
        piece = reads_from p.account c;
        earlier = p.account.pieces;
        verdict = owed p.account c (length d);
        before = d;
        behind = e;
      } ∷ p.wrote;
  messages = logged v (reads_from p.account c) p.account.pieces e p.messages;
}

-- by the definitions that the contracts of the calls cite
abbrev pub does : Piecing → PieceCall → Piecing
does p (begin· n) =
    starts p n (choose (assembly.is_sound p.words) begun (turned 12)) (choose (assembly.is_sound p.words) (assembly.begun p.words n) p.words)
does p (take· c d) =
    let o = assembly.taken p.words c d in
    takes p c d (verdict_of o.answer) o.words o.bytes

-- what is asked of the host: a buffer that is long enough is lent with the bytes that the pieces taken have brought as the last call left them. Over one
-- that is too short nothing is asked
abbrev pub FairPiece : Piecing → PieceCall → Type 0
FairPiece p (begin· n) = Unit {0}
FairPiece p (take· c d) = longest_body ≤ length d → (i : ℕ) → covers p.account.pieces i ≡ true → get_or d i 0 ≡ get_or p.left i 0

-- ---- what is claimed

-- the verdict takes a piece
abbrev pub is_taken : Verdict → Bool
is_taken begun = false
is_taken (turned n) = false
is_taken (ended n) = false
is_taken over = false
is_taken (other n) = false
is_taken same = false
is_taken held = true
is_taken (whole k n l) = true

-- "the buffer unchanged by that piece" where it is not taken; else each byte that it brings and no earlier piece has is its byte, and every other
-- byte of the buffer is as it was
abbrev pub brings : Wrote → ℕ → Bool
brings u i = both (is_taken u.verdict) (both (has u.piece i) (choose (covers u.earlier i) false true))

pub record WroteOnly (u : Wrote) : Type 0 where
  pub long : length u.behind ≡ length u.before
  pub bytes : (i : ℕ) → get_or u.behind i 0 ≡ choose (brings u i) (get_or u.piece.body (i - u.piece.offset) 0) (get_or u.before i 0)
  pub spared : is_taken u.verdict ≡ false → u.behind ≡ u.before

-- a message agrees with a piece: type, length, and every byte that the piece has
pub record Agrees (m : Out) (f : Fragment) : Type 0 where
  pub kind : f.kind ≡ m.kind
  pub total : f.total ≡ length m.body
  pub byte : (i : ℕ) → has f i ≡ true → get_or m.body i 0 ≡ byte_in f i

-- a message has the type and the length of the first of its pieces, a piece for every byte, and each byte as the first piece that has it; and it agrees
-- with every piece that was taken for it, not only with the first to have a byte (02, 7)
pub record Right (m : Out) : Type 0 where
  pub kind : m.kind ≡ (oldest m.last m.earlier).kind
  pub total : length m.body ≡ (oldest m.last m.earlier).total
  pub whole : (i : ℕ) → i < length m.body → covers (m.last ∷ m.earlier) i ≡ true
  pub byte : (i : ℕ) → i < length m.body → get_or m.body i 0 ≡ byte_of (m.last ∷ m.earlier) i
  pub each : (f : Fragment) → Mem f (m.last ∷ m.earlier) → Agrees m f

-- "Number 0 is expected first, then one more after each message", "handed over once": messages, the newest first, numbered from 0 on
pub data Log : List Out → Type 0 where
  none : Log []
  more : {m : Out} {ms : List Out} → m.number ≡ length ms → Right m → Log ms → Log (m ∷ ms)

-- a piece stood at the place reached of a content given
abbrev pub Came : List Given → Fragment → Type 0
Came gs f = (g : Given) × Mem g gs × (fragment_in (drop g.place g.content) ≡ some f)

pub record Assembled (p : Piecing) : Type 0 where
  -- each call was answered as the account says: 12 never, 15, 16, 24, 28, 25, the end, another message's, the same, held, a message exactly if
  pub answers : (a : Told) → Mem a p.told → a.reply ≡ a.owed
  -- the buffer changed by what a taken piece brings anew, and by nothing else
  pub writes : (u : Wrote) → Mem u p.wrote → WroteOnly u
  -- the messages are 0, 1, 2 and so on, each as the pieces taken of it say, and as many as the account has as out
  pub log : Log p.messages
  pub count : length p.messages ≡ p.account.out
  -- "bytes of pieces given": every piece of a message, and every piece taken since, stood in a content that the host gave
  pub from_given : (m : Out) → Mem m p.messages → (f : Fragment) → Mem f (m.last ∷ m.earlier) → Came p.given f
  pub held-given : (f : Fragment) → Mem f p.account.pieces → Came p.given f

-- ---- every list of calls

abbrev pub ran : Piecing → List PieceCall → Piecing
ran p [] = p
ran p (c ∷ cs) = ran (does p c) cs

abbrev pub AllFair : Piecing → List PieceCall → Type 0
AllFair p [] = Unit {0}
AllFair p (c ∷ cs) = FairPiece p c × AllFair (does p c) cs

abbrev pub EveryRun : Type 0
EveryRun = (cs : List PieceCall) → AllFair new_piecing cs → Assembled (ran new_piecing cs)
