-- The claim's own length of the record at the front of a rest is the cut's; so is whether it is a plaintext record in order. What the cut finds
-- is read from the rest, and the claim's own nonce is the cipher's. Assumes nothing.
use Rattle.std.specs.Prelude.{ℕ, ◌+◌, ◌-◌, ◌/◌, ◌%◌, ◌<◌, ◌≤◌, ltb, eqb, true, false, List, [], ◌∷◌, ◌≡◌}
use borrow.Author.Tests.{ltb-true, ltb-false, lt-ltb, le-ltb, eqb-true, eqb-false, eq-eqb, ne_eqb}
use Rattle.std.proofs.Math.ListN.{length, get_or}
use Rattle.std.proofs.Math.Logic.{inl, inr, ⊎_elim}
use Rattle.std.proofs.Math.Path.{refl, ap, subst}
use Rattle.std.proofs.Common.{sym, ◌∙◌}
use native.Mathlib.Omega.{arith}
use Rattle.base.specs.Bytes.{be_at}
use Rattle.base.specs.Choose.{choose, if_true, if_false, by_test, test_cases}
use Rattle.dtls_aead.specs.Nonce.{nonce_of}
use Rattle.record.specs.Record.{c_flag_of, header_length, fragment_len, ciphertext_of, parse_ciphertext, is_type, is_version, is_plaintext, plaintext_of, parse_plaintext, parsed}
use Rattle.record.specs.declared.Parsed.TheVariants as parse
use Rattle.record.specs.declared.Parsed.{Parsed}
use Rattle.history_theorem.specs.Account.{plain_head, head_size, said_size, sealed_size, plain_size, record_size, good_plain}
use Rattle.history_theorem.specs.Claim.{Over, Short, There, nonce_for}
use Rattle.history_theorem.proofs.Lists.{by_both, either-cases, both-cases}

-- what the cut finds, against the account's length
abbrev pub Cuts : List ℕ → ℕ → Parsed → Type 0
Cuts rest size parse.End = size ≡ length rest
Cuts rest size parse.Incomplete = size ≡ length rest
Cuts rest size (parse.Invalid k) = size ≡ plain_head + k
Cuts rest size (parse.Plaintext p) = (size ≡ plain_head + p.length) × (good_plain rest ≡ true) × (p ≡ plaintext_of rest)
Cuts rest size (parse.Ciphertext c) = (size ≡ c.header_len + c.length) × (c ≡ ciphertext_of rest (get_or rest 0 0))

-- one test for two ways to say it
less-same : (n h f s : ℕ) → h ≤ n → s ≡ h + f → ltb (n - h) f ≡ ltb n s
less-same n h f s low e =
    test_cases (ltb n s) (λ t. lt-ltb (n - h) f (omega (arith, ltb-true n s t)) ∙ sym t) (λ t. le-ltb (n - h) f (omega (arith, ltb-false n s t)) ∙ sym t)

module _ (rest : List ℕ) where
  pub head-same : (flags : ℕ) → header_length flags ≡ head_size flags
  unfolding header_length
  head-same flags = omega arith

  said_same : (flags : ℕ) → header_length flags ≤ length rest → said_size rest flags ≡ header_length flags + fragment_len rest flags
  unfolding fragment_len
  said_same flags low =
      test_cases (eqb (flags / 4 % 2) 1)
      (λ t.
      if_true _ _ t ∙ ap (λ (h : ℕ). h + be_at 2 rest (h - 2)) (sym (head-same flags)) ∙ ap (λ (x : ℕ). header_length flags + x) (sym (if_true _ _ t)))
      (λ t. if_false _ _ t ∙ all ∙ ap (λ (x : ℕ). header_length flags + x) (sym (if_false _ _ t)))
    where
      all : length rest ≡ header_length flags + (length rest - header_length flags)
      all = omega arith

  sealed-cut : (flags : ℕ) → flags ≡ get_or rest 0 0 → Cuts rest (sealed_size rest flags) (choose (c_flag_of flags) parse.End (parse_ciphertext rest flags))
  unfolding sealed_size parse_ciphertext
  sealed-cut flags q =
      by_both (Cuts rest) refl (λ t. refl)
      (λ t. by_both (Cuts rest) (ap (ltb (length rest)) (head-same flags)) (λ u. refl)
      (λ u.
      let low : header_length flags ≤ length rest = omega (arith, ltb-false (length rest) (head_size flags) u, head-same flags) in
      by_both (Cuts rest) {x' = parse.Incomplete} {y' = parse.Ciphertext (ciphertext_of rest flags)}
      (less-same (length rest) (header_length flags) (fragment_len rest flags) (said_size rest flags) low (said_same flags low)) (λ v. refl)
      (λ v. (said_same flags low, ap (ciphertext_of rest) q))))

  good : is_plaintext rest ≡ true → good_plain rest ≡ true
  unfolding is_plaintext is_type is_version good_plain
  good v = v

  plain-cut : Cuts rest (plain_size rest) (parse_plaintext rest)
  unfolding plain_size parse_plaintext
  plain-cut =
      by_both (Cuts rest) refl (λ t. refl)
      (λ t.
      by_both (Cuts rest) (less-same (length rest) plain_head (be_at 2 rest 11) (plain_head + be_at 2 rest 11) (ltb-false (length rest) plain_head t) refl) (λ u. refl)
      (λ u. by_test (Cuts rest (plain_head + be_at 2 rest 11)) {x = parse.Plaintext (plaintext_of rest)} {y = parse.Invalid (be_at 2 rest 11)}
      (λ v. (refl, good v, refl)) (λ v. refl)))

  front : (length rest ≡ 0 → ⊥) → Cuts rest (record_size rest) (parsed rest)
  unfolding record_size parsed
  front any =
      subst (Cuts rest (record_size rest)) (sym (if_false _ _ (ne_eqb (length rest) 0 any)))
      (by_both (Cuts rest) refl (λ t. sealed-cut (get_or rest 0 0) refl) (λ t. plain-cut))

-- what the cut finds of a record that is whole

any-bytes : (rest : List ℕ) → 0 < length rest → eqb (length rest) 0 ≡ false
any-bytes rest h = ne_eqb (length rest) 0 (λ e. omega arith)

good-first : (rest : List ℕ) → good_plain rest ≡ true → get_or rest 0 0 / 32 ≡ 1 → ⊥
unfolding good_plain
good-first rest g e =
    both-cases _ _ g λ type v.
    either-cases _ _ type (λ t. let x : get_or rest 0 0 ≡ 21 = eqb-true _ _ t in omega arith)
    (λ n o. either-cases _ _ o (λ t. let x : get_or rest 0 0 ≡ 22 = eqb-true _ _ t in omega arith)
    (λ m t. let x : get_or rest 0 0 ≡ 26 = eqb-true _ _ t in omega arith))

pub plain-parsed : (rest : List ℕ) → good_plain rest ≡ true → plain_head + be_at 2 rest 11 ≤ length rest → parsed rest ≡ parse.Plaintext (plaintext_of rest)
unfolding parsed parse_plaintext
plain-parsed rest g whole =
    if_false _ _ (any-bytes rest (omega arith)) ∙ if_false _ _ (ne_eqb (get_or rest 0 0 / 32) 1 (good-first rest g))
    ∙ if_false _ _ (le-ltb (length rest) plain_head (omega arith)) ∙ if_false _ _ (le-ltb (length rest - plain_head) (be_at 2 rest 11) (omega arith))
    ∙ if_true _ _ (unfold is_plaintext is_type is_version good_plain in g)

pub sealed-parsed : (rest : List ℕ) → get_or rest 0 0 / 32 ≡ 1 → get_or rest 0 0 / 16 % 2 ≡ 0 → head_size (get_or rest 0 0) ≤ length rest
    → said_size rest (get_or rest 0 0) ≤ length rest → parsed rest ≡ parse.Ciphertext (ciphertext_of rest (get_or rest 0 0))
unfolding parsed parse_ciphertext
sealed-parsed rest form on head whole =
    let flags : ℕ = get_or rest 0 0 in
    let low : header_length flags ≤ length rest = omega (arith, head-same rest flags) in
    if_false _ _ (any-bytes rest (omega arith)) ∙ if_true _ _ (eq-eqb (flags / 32) 1 form)
    ∙ if_false _ _ (ne_eqb (flags / 16 % 2) 1 (λ e. omega arith)) ∙ if_false _ _ (le-ltb (length rest) (header_length flags) low)
    ∙ if_false _ _ (le-ltb (length rest - header_length flags) (fragment_len rest flags) (omega (arith, said_same rest flags low)))

no_front : Cuts [] (record_size []) (parsed [])
unfolding record_size parsed choose plain_size
no_front = refl

pub cut : (rest : List ℕ) → Cuts rest (record_size rest) (parsed rest)
cut [] = no_front
cut (b ∷ rest) = front (b ∷ rest) (λ e. omega arith)

-- where the datagram ends, and where a record is cut short

abbrev pub Finds : List ℕ → Parsed → Type 0
Finds rest parse.End = Over rest
Finds rest parse.Incomplete = (Over rest → ⊥) × Short rest
Finds rest (parse.Invalid n) = There rest
Finds rest (parse.Plaintext p) = There rest
Finds rest (parse.Ciphertext c) = There rest

module _ (rest : List ℕ) (any : length rest ≡ 0 → ⊥) where
  sealed-on : (get_or rest 0 0 / 16 % 2 ≡ 1 → ⊥) → Over rest → ⊥
  sealed-on ne = ⊎_elim (λ e. any e) (λ p. ne p.1)

  plain-on : (get_or rest 0 0 / 32 ≡ 1 → ⊥) → Over rest → ⊥
  plain-on ne = ⊎_elim (λ e. any e) (λ p. ne p.0)

  sealed-finds : (flags : ℕ) → flags ≡ get_or rest 0 0 → flags / 32 ≡ 1 → (flags / 16 % 2 ≡ 1 → ⊥) → Finds rest (parse_ciphertext rest flags)
  unfolding parse_ciphertext
  sealed-finds flags q form ne =
      let on : Over rest → ⊥ = sealed-on (subst (λ (x : ℕ). x / 16 % 2 ≡ 1 → ⊥) q ne) in
      let is : get_or rest 0 0 / 32 ≡ 1 = subst (λ (x : ℕ). x / 32 ≡ 1) q form in
      by_test (Finds rest)
      (λ t.
      let low : length rest < head_size flags = omega (arith, ltb-true (length rest) (header_length flags) t, head-same rest flags) in
      (on, inl (is, inl (subst (λ (x : ℕ). length rest < head_size x) q low))))
      (λ t.
      let enough : header_length flags ≤ length rest = ltb-false (length rest) (header_length flags) t in
      let head : head_size flags ≤ length rest = omega (arith, head-same rest flags) in
      by_test (Finds rest)
      (λ u.
      let low : length rest < said_size rest flags = omega (arith, ltb-true (length rest - header_length flags) (fragment_len rest flags) u, said_same rest flags enough) in
      (on, inl (is, inr (subst (λ (x : ℕ). length rest < said_size rest x) q low))))
      (λ u.
      let all : said_size rest flags ≤ length rest =
      omega (arith, ltb-false (length rest - header_length flags) (fragment_len rest flags) u, said_same rest flags enough) in
      record {
        goes_on = on;
        all_here =
            ⊎_elim
            (λ p. ⊎_elim (λ l. let h : head_size (get_or rest 0 0) ≤ length rest = subst (λ (x : ℕ). head_size x ≤ length rest) q head in omega arith)
            (λ l. let h : said_size rest (get_or rest 0 0) ≤ length rest = subst (λ (x : ℕ). said_size rest x ≤ length rest) q all in omega arith) p.1)
            (λ p. p.0 is);
      }))

  plain-finds : (get_or rest 0 0 / 32 ≡ 1 → ⊥) → Finds rest (parse_plaintext rest)
  unfolding parse_plaintext
  plain-finds ne =
      by_test (Finds rest) (λ t. (plain-on ne, inr (ne, omega (arith, ltb-true (length rest) plain_head t))))
      (λ t. by_test (Finds rest)
      (λ u. (plain-on ne, inr (ne, omega (arith, ltb-false (length rest) plain_head t, ltb-true (length rest - plain_head) (be_at 2 rest 11) u))))
      (λ u.
      let all : There rest = record {
        goes_on = plain-on ne;
        all_here =
            ⊎_elim (λ p. ne p.0)
            (λ p. omega (arith, p.1, ltb-false (length rest) plain_head t, ltb-false (length rest - plain_head) (be_at 2 rest 11) u));
      } in
      by_test (Finds rest) {x = parse.Plaintext (plaintext_of rest)} {y = parse.Invalid (be_at 2 rest 11)} (λ v. all) (λ v. all)))

pub finds : (rest : List ℕ) → Finds rest (parsed rest)
unfolding parsed
finds rest =
    by_test (Finds rest) (λ t. inl (eqb-true _ _ t))
    (λ t. by_test (Finds rest)
    (λ u. by_test (Finds rest) (λ v. inr (eqb-true _ _ u, eqb-true _ _ v))
    (λ v. sealed-finds rest (eqb-false _ _ t) (get_or rest 0 0) refl (eqb-true _ _ u) (eqb-false _ _ v)))
    (λ u. plain-finds rest (eqb-false _ _ t) (eqb-false _ _ u)))

-- the nonce

pub nonce-own : (iv : List ℕ) (n : ℕ) → nonce_of iv n ≡ nonce_for iv n
unfolding nonce_of
nonce-own iv n = refl
