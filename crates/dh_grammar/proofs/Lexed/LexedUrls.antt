-- A URL that is read can be spelled.
use Rattle.std.proofs.Common.{arith, ◌≡◌, ℕ, zero, suc, ◌+◌, ◌-◌, ◌≤◌, ◌<◌, Bool, true, false, cond, eqb, List, [], ◌∷◌, ◌++◌, reverse, length, take, drop, refl, sym, ◌∙◌, ap, subst}
use Rattle.std.specs.Prelude.{IsTrue, ⊤, ◌&&◌, ◌==◌, nat_lt, if◌then◌else◌, Some, None, slice_index}
use Rattle.std.specs.Char.{is_ascii_alphanumeric, is_ascii_digit, is_ascii_hexdigit}
use Rattle.std.specs.List.{list_all, prefix_len, suffix_len}
use Rattle.std.specs.Str.{byte}
use Rattle.std.proofs.lemmas.Bool.{eqb-true, ltb-true, eq-eqb}
use Rattle.std.proofs.lemmas.Grind.{reverse_onto}
use Rattle.std.proofs.lemmas.List.{append_assoc, take-take, length-reverse}
use Rattle.std.proofs.lemmas.List.Folds.{prefix_len-append, length-prefix_len}
use Rattle.std.proofs.Math.Seq.{take-add}
use Rattle.std.proofs.lemmas.List.Sums.{suffix_len-le-length, prefix_len-le-length}
use Rattle.dh_syntax.specs.declared.locations.Loc.{Loc}
use Rattle.dh_syntax.specs.declared.locations.Loc.TheVariants as locs
use Rattle.dh_syntax.specs.declared.locations.Url.{Url}
use Rattle.dh_syntax.specs.declared.tokens.TokenKind.TheVariants as kinds
use Rattle.dh_syntax.specs.Expressions.Arity.{has_some}
use Rattle.dh_syntax.specs.Text.Characters.{first, begins, is_host_byte, is_query_byte, is_segment_byte}
use Rattle.dh_syntax.proofs.LexingLaws.{more_labels-skip}
use Rattle.dh_syntax.specs.Text.LexForms.{Is, LeftOut, form}
use Rattle.dh_syntax.specs.Text.LexLocations.{components, label_len, after_dot, more_labels, domain_len, port_len, host_len, begins_percent, by_url_char, url_chars_len, segment, one_or_more, query_of, query_len, url_form, after_scheme, url}
use Rattle.dh_syntax.specs.Expressions.Spellable.{is_encoded, is_segment, is_query, is_host, after_letter, after_hyphen, query_spellable, url_spellable}
use Rattle.dh_syntax.specs.Expressions.Spellable as spellable
use Rattle.dh_grammar.specs.Inside.SoundTokens.{good_kind}
use Rattle.dh_grammar.proofs.Lexed.Bytes.{all_prefix, prefix_more, or_case}
use Rattle.dh_grammar.proofs.Maps.Cutting.{by_bool}
use Rattle.dh_grammar.proofs.Lexed.LexedForms.{Good, form_good, if_good, or_true_left, or_true_right, TextIs, all_components}
use Rattle.dh_grammar.proofs.TruthValues.{both, left_of, right_of, by_test}

-- ---- characters of URLs

abbrev Hexes : ℕ → List ℕ → Type 0
Hexes zero bs = ⊤
Hexes (suc n) [] = ⊥
Hexes (suc n) (b ∷ bs) = IsTrue (is_ascii_hexdigit b) × Hexes n bs

percent_hexes : (b : ℕ) (bs : List ℕ) → IsTrue (begins_percent (b ∷ bs)) → IsTrue (b == byte "%") × Hexes 2 bs
percent_hexes b [] h = absurd (let k = right_of (b == byte "%" && is_ascii_hexdigit (slice_index (b ∷ []) 1)) _ h in cc)
percent_hexes b (c ∷ []) h = absurd (let k = right_of (b == byte "%" && is_ascii_hexdigit (slice_index (b ∷ c ∷ []) 1)) _ h in cc)
percent_hexes b (c ∷ d ∷ bs) h =
    let l = left_of (b == byte "%" && is_ascii_hexdigit c) (is_ascii_hexdigit d) h in
    (left_of (b == byte "%") (is_ascii_hexdigit c) l, (right_of (b == byte "%") (is_ascii_hexdigit c) l, (right_of (b == byte "%" && is_ascii_hexdigit c) (is_ascii_hexdigit d) h, tt)))

encoded : (plain : ℕ → Bool) (skip : ℕ) (bs : List ℕ) → Hexes skip bs → IsTrue (is_encoded plain skip (take (url_chars_len plain skip bs) bs))
encoded plain zero [] h = refl
encoded plain (suc n) [] h = absurd h
encoded plain (suc n) (b ∷ bs) h = both (is_ascii_hexdigit b) _ h.0 (encoded plain n bs h.1)
encoded plain zero (b ∷ bs) h =
    by_test (λ k. IsTrue (is_encoded plain 0 (take (by_url_char k (λ n. url_chars_len plain n bs)) (b ∷ bs)))) (plain b) 1 (if begins_percent (b ∷ bs) then 3 else 0)
    (λ e. or_true_right (b == byte "%" && is_encoded plain 2 (take (url_chars_len plain 0 bs) bs)) (plain b && is_encoded plain 0 (take (url_chars_len plain 0 bs) bs)) (both (plain b) _ e (encoded plain 0 bs tt)))
    (λ e. by_test (λ k. IsTrue (is_encoded plain 0 (take (by_url_char k (λ n. url_chars_len plain n bs)) (b ∷ bs)))) (begins_percent (b ∷ bs)) 3 0
    (λ p. let q = percent_hexes b bs p in or_true_left (b == byte "%" && is_encoded plain 2 (take (url_chars_len plain 2 bs) bs)) _ (both (b == byte "%") _ q.0 (encoded plain 2 bs q.1)))
    (λ p. refl))

segment_good : (bs : List ℕ) → TextIs is_segment (segment bs)
segment_good bs = encoded is_segment_byte 0 bs tt

query_good : (bs : List ℕ) → IsTrue (query_spellable (query_of bs))
query_good bs =
    by_test (λ q. IsTrue (query_spellable q)) (first bs == byte "?") (Some (take (url_chars_len is_query_byte 0 (drop 1 bs)) (drop 1 bs))) None (λ e. encoded is_query_byte 0 (drop 1 bs) tt) (λ e. refl)

-- ---- hosts

abbrev is_hyphen : ℕ → Bool
is_hyphen b = b == byte "-"

letter_letter : (b : ℕ) (bs : List ℕ) → IsTrue (is_ascii_alphanumeric b) → IsTrue (after_letter bs) → IsTrue (after_letter (b ∷ bs))
letter_letter b bs h k = or_true_left _ _ (or_true_left _ _ (or_true_left (is_ascii_alphanumeric b && after_letter bs) _ (both (is_ascii_alphanumeric b) (after_letter bs) h k)))

letter_hyphen : (b : ℕ) (bs : List ℕ) → IsTrue (is_hyphen b) → IsTrue (after_hyphen bs) → IsTrue (after_letter (b ∷ bs))
letter_hyphen b bs h k = or_true_left _ _ (or_true_left _ _ (or_true_right (is_ascii_alphanumeric b && after_letter bs) (is_hyphen b && after_hyphen bs) (both (is_hyphen b) (after_hyphen bs) h k)))

letter_dot : (b : ℕ) (bs : List ℕ) → IsTrue (b == byte ".") → IsTrue (spellable.after_dot bs) → IsTrue (after_letter (b ∷ bs))
letter_dot b bs h k = or_true_left _ _ (or_true_right _ (b == byte "." && spellable.after_dot bs) (both (b == byte ".") (spellable.after_dot bs) h k))

letter_colon : (b : ℕ) (bs : List ℕ) → IsTrue (b == byte ":") → IsTrue (list_all is_ascii_digit bs) → IsTrue (after_letter (b ∷ bs))
letter_colon b bs h k = or_true_right _ (b == byte ":" && list_all is_ascii_digit bs) (both (b == byte ":") (list_all is_ascii_digit bs) h k)

hyphen_letter : (b : ℕ) (bs : List ℕ) → IsTrue (is_ascii_alphanumeric b) → IsTrue (after_letter bs) → IsTrue (after_hyphen (b ∷ bs))
hyphen_letter b bs h k = or_true_left (is_ascii_alphanumeric b && after_letter bs) _ (both (is_ascii_alphanumeric b) (after_letter bs) h k)

hyphen_hyphen : (b : ℕ) (bs : List ℕ) → IsTrue (is_hyphen b) → IsTrue (after_hyphen bs) → IsTrue (after_hyphen (b ∷ bs))
hyphen_hyphen b bs h k = or_true_right (is_ascii_alphanumeric b && after_letter bs) (is_hyphen b && after_hyphen bs) (both (is_hyphen b) (after_hyphen bs) h k)

-- how many bytes a run has without the hyphens at its end
abbrev trimmed : List ℕ → ℕ
trimmed xs = length xs - suffix_len is_hyphen xs

not_both : (b : Bool) → b ≡ true → b ≡ false → ⊥
not_both b p q = let e = sym p ∙ q in cc

nonzero : (n : ℕ) → (n == 0) ≡ false → 0 < n
nonzero zero e = cc
nonzero (suc n) e = omega arith

suffix_more : (x : ℕ) (xs : List ℕ) → suffix_len is_hyphen (x ∷ xs) ≡ cond (eqb (suffix_len is_hyphen xs) (length xs)) (length xs + prefix_len is_hyphen (x ∷ [])) (suffix_len is_hyphen xs)
suffix_more x xs =
    ap (prefix_len is_hyphen) (reverse_onto xs x []) ∙ prefix_len-append is_hyphen (reverse xs) (x ∷ [])
    ∙ ap (λ n. cond (eqb (suffix_len is_hyphen xs) n) (n + prefix_len is_hyphen (x ∷ [])) (suffix_len is_hyphen xs)) (length-reverse xs)

-- a byte more before a run
data Longer (x : ℕ) (xs : List ℕ) : Type 0 where
  nothing : trimmed (x ∷ xs) ≡ 0 → IsTrue (is_hyphen x) → Longer x xs
  alone : trimmed (x ∷ xs) ≡ 1 → trimmed xs ≡ 0 → is_hyphen x ≡ false → Longer x xs
  more : trimmed (x ∷ xs) ≡ suc (trimmed xs) → 0 < trimmed xs → Longer x xs

longer : (x : ℕ) (xs : List ℕ) → Longer x xs
longer x xs =
    let s = suffix_more x xs in
    let l = suffix_len-le-length is_hyphen xs in
    by_bool (eqb (suffix_len is_hyphen xs) (length xs))
    (λ e. let f : suffix_len is_hyphen xs ≡ length xs = eqb-true (suffix_len is_hyphen xs) (length xs) e in
    let g : suffix_len is_hyphen (x ∷ xs) ≡ length xs + prefix_len is_hyphen (x ∷ []) = s ∙ ap (λ b. cond b (length xs + prefix_len is_hyphen (x ∷ [])) (suffix_len is_hyphen xs)) e in
    by_bool (is_hyphen x)
    (λ b. let p : prefix_len is_hyphen (x ∷ []) ≡ 1 = ap (λ b. cond b 1 0) b in nothing (omega arith) b)
    (λ b. let p : prefix_len is_hyphen (x ∷ []) ≡ 0 = ap (λ b. cond b 1 0) b in alone (omega arith) (omega arith) b))
    (λ e. let g : suffix_len is_hyphen (x ∷ xs) ≡ suffix_len is_hyphen xs = s ∙ ap (λ b. cond b (length xs + prefix_len is_hyphen (x ∷ [])) (suffix_len is_hyphen xs)) e in
    let n : ¬ (suffix_len is_hyphen xs ≡ length xs) = λ q. not_both (eqb (suffix_len is_hyphen xs) (length xs)) (eq-eqb (suffix_len is_hyphen xs) (length xs) q) e in
    more (omega arith) (omega arith))

host_letter : (x : ℕ) → IsTrue (is_host_byte x) → is_hyphen x ≡ false → IsTrue (is_ascii_alphanumeric x)
host_letter x h e = or_case (is_ascii_alphanumeric x) (is_hyphen x) (λ a. a) (λ b. absurd (not_both (is_hyphen x) b e)) h

record Runs (xs rest : List ℕ) : Type 0 where
  letters : IsTrue (after_letter (take (trimmed xs) xs ++ rest))
  hyphens : 0 < trimmed xs → IsTrue (after_hyphen (take (trimmed xs) xs ++ rest))

runs_by : (x : ℕ) (xs rest : List ℕ) → IsTrue (is_host_byte x) → IsTrue (after_letter rest) → Longer x xs → Runs xs rest → Runs (x ∷ xs) rest
runs_by x xs rest h k (nothing e b) r = record {
  letters = ap (λ n. after_letter (take n (x ∷ xs) ++ rest)) e ∙ k;
  hyphens = λ p. absurd (omega arith);
}
runs_by x xs rest h k (alone e f b) r = record {
  letters = ap (λ n. after_letter (take n (x ∷ xs) ++ rest)) e ∙ letter_letter x rest (host_letter x h b) k;
  hyphens = λ p. ap (λ n. after_hyphen (take n (x ∷ xs) ++ rest)) e ∙ hyphen_letter x rest (host_letter x h b) k;
}
runs_by x xs rest h k (more e p) r = record {
  letters = ap (λ n. after_letter (take n (x ∷ xs) ++ rest)) e ∙ or_case (is_ascii_alphanumeric x) (is_hyphen x) (λ a. letter_letter x (take (trimmed xs) xs ++ rest) a r.letters) (λ b. letter_hyphen x (take (trimmed xs) xs ++ rest) b (r.hyphens p)) h;
  hyphens = λ q. ap (λ n. after_hyphen (take n (x ∷ xs) ++ rest)) e ∙ or_case (is_ascii_alphanumeric x) (is_hyphen x) (λ a. hyphen_letter x (take (trimmed xs) xs ++ rest) a r.letters) (λ b. hyphen_hyphen x (take (trimmed xs) xs ++ rest) b (r.hyphens p)) h;
}

runs : (xs rest : List ℕ) → IsTrue (list_all is_host_byte xs) → IsTrue (after_letter rest) → Runs xs rest
runs [] rest h k = record { letters = k; hyphens = λ p. absurd (omega arith) }
runs (x ∷ xs) rest h k =
    runs_by x xs rest (left_of (is_host_byte x) (list_all is_host_byte xs) h) k (longer x xs) (runs xs rest (right_of (is_host_byte x) (list_all is_host_byte xs) h) k)

-- a label begins with a letter or digit, and after it anything may stand that may stand after one
record Label (bs rest : List ℕ) : Type 0 where
  byte : ℕ
  more : List ℕ
  is : take (label_len bs) bs ++ rest ≡ byte ∷ more
  starts : IsTrue (is_ascii_alphanumeric byte)
  goes_on : IsTrue (after_letter more)

letter_no_hyphen : (b : ℕ) → IsTrue (is_ascii_alphanumeric b) → is_hyphen b ≡ false
letter_no_hyphen b h = by_bool (is_hyphen b) (λ e. absurd (let f = eqb-true b (byte "-") e in let g = subst (λ c. IsTrue (is_ascii_alphanumeric c)) f h in cc)) (λ e. e)

label_by : (b : ℕ) (xs bs rest : List ℕ) → IsTrue (is_ascii_alphanumeric b) → take (label_len bs) bs ≡ take (trimmed (b ∷ xs)) (b ∷ xs) → IsTrue (list_all is_host_byte xs) → IsTrue (after_letter rest) → Longer b xs → Label bs rest
label_by b xs bs rest h e l k (nothing z q) = absurd (not_both (is_hyphen b) q (letter_no_hyphen b h))
label_by b xs bs rest h e l k (alone z f q) = record { byte = b; more = rest; is = ap (λ ys. ys ++ rest) e ∙ ap (λ n. take n (b ∷ xs) ++ rest) z; starts = h; goes_on = k }
label_by b xs bs rest h e l k (more z p) = record { byte = b; more = take (trimmed xs) xs ++ rest; is = ap (λ ys. ys ++ rest) e ∙ ap (λ n. take n (b ∷ xs) ++ rest) z; starts = h; goes_on = (runs xs rest l k).letters }

label_is : (bs : List ℕ) → IsTrue (is_ascii_alphanumeric (first bs)) → label_len bs ≡ trimmed (take (prefix_len is_host_byte bs) bs)
label_is bs h = ap (λ b. if b then trimmed (take (prefix_len is_host_byte bs) bs) else 0) h

label_taken : (bs : List ℕ) → IsTrue (is_ascii_alphanumeric (first bs)) → take (label_len bs) bs ≡ take (trimmed (take (prefix_len is_host_byte bs) bs)) (take (prefix_len is_host_byte bs) bs)
label_taken bs h =
    let run = take (prefix_len is_host_byte bs) bs in
    let l = length-prefix_len is_host_byte bs in
    ap (λ n. take n bs) (label_is bs h) ∙ sym (take-take (trimmed run) (prefix_len is_host_byte bs) bs (omega arith))

label_starts : (bs : List ℕ) → 0 < label_len bs → IsTrue (is_ascii_alphanumeric (first bs))
label_starts bs h = by_bool (is_ascii_alphanumeric (first bs)) (λ e. e) (λ e. absurd (let f : label_len bs ≡ 0 = ap (λ b. if b then trimmed (take (prefix_len is_host_byte bs) bs) else 0) e in omega arith))

run_is : (b : ℕ) (bs : List ℕ) → IsTrue (is_ascii_alphanumeric b) → take (prefix_len is_host_byte (b ∷ bs)) (b ∷ bs) ≡ b ∷ take (prefix_len is_host_byte bs) bs
run_is b bs h = ap (λ n. take n (b ∷ bs)) (prefix_more is_host_byte b bs (or_true_left (is_ascii_alphanumeric b) (b == byte "-") h))

label_at : (bs rest : List ℕ) → IsTrue (is_ascii_alphanumeric (first bs)) → IsTrue (after_letter rest) → Label bs rest
label_at [] rest h k = cc
label_at (b ∷ bs) rest h k =
    let xs = take (prefix_len is_host_byte bs) bs in
    label_by b xs (b ∷ bs) rest h (label_taken (b ∷ bs) h ∙ ap (λ run. take (trimmed run) run) (run_is b bs h)) (all_prefix is_host_byte bs) k (longer b xs)

label : (bs rest : List ℕ) → 0 < label_len bs → IsTrue (after_letter rest) → Label bs rest
label bs rest p k = label_at bs rest (label_starts bs p) k

host_starts : (bs rest : List ℕ) → Label bs rest → IsTrue (is_host (take (label_len bs) bs ++ rest))
host_starts bs rest l = ap is_host l.is ∙ both (is_ascii_alphanumeric l.byte) (after_letter l.more) l.starts l.goes_on

dot_starts : (bs rest : List ℕ) → Label bs rest → IsTrue (spellable.after_dot (take (label_len bs) bs ++ rest))
dot_starts bs rest l = ap spellable.after_dot l.is ∙ or_true_left (is_ascii_alphanumeric l.byte && after_letter l.more) _ (both (is_ascii_alphanumeric l.byte) (after_letter l.more) l.starts l.goes_on)

label_low : (bs : List ℕ) → label_len bs ≤ length bs
label_low bs =
    let run = take (prefix_len is_host_byte bs) bs in
    by_bool (is_ascii_alphanumeric (first bs))
    (λ e. let f = label_is bs e in let l = length-prefix_len is_host_byte bs in let m = prefix_len-le-length is_host_byte bs in omega arith)
    (λ e. let f : label_len bs ≡ 0 = ap (λ b. if b then trimmed run else 0) e in omega arith)

-- what may stand behind a host's labels
record MayEnd (rest : List ℕ) : Type 0 where
  letter : IsTrue (after_letter rest)
  dot : IsTrue (spellable.after_dot rest)

abbrev More : List ℕ → List ℕ → Type 0
More bs rest = IsTrue (after_letter (take (more_labels 0 bs) bs ++ rest))

dot_more : (b : ℕ) (bs rest : List ℕ) (n : ℕ) → n ≡ label_len bs → IsTrue (b == byte ".") → MayEnd rest → More (drop n bs) rest
    → IsTrue (after_letter (take (after_dot n (λ n. more_labels n bs)) (b ∷ bs) ++ rest))
dot_more b bs rest zero e d m k = letter_dot b rest d m.dot
dot_more b bs rest (suc n) e d m k =
    let low = label_low bs in
    let split : take (more_labels (suc n) bs) bs ≡ take (label_len bs) bs ++ take (more_labels 0 (drop (suc n) bs)) (drop (suc n) bs) =
    ap (λ i. take i bs) (more_labels-skip (suc n) bs (omega arith)) ∙ take-add (suc n) (more_labels 0 (drop (suc n) bs)) bs ∙ ap (λ i. take i bs ++ take (more_labels 0 (drop (suc n) bs)) (drop (suc n) bs)) e in
    let l = label bs (take (more_labels 0 (drop (suc n) bs)) (drop (suc n) bs) ++ rest) (omega arith) k in
    letter_dot b (take (more_labels (suc n) bs) bs ++ rest) d
    (ap (λ ys. spellable.after_dot (ys ++ rest)) split ∙ ap spellable.after_dot (append_assoc (take (label_len bs) bs) _ rest) ∙ dot_starts bs (take (more_labels 0 (drop (suc n) bs)) (drop (suc n) bs) ++ rest) l)

labels_end : (skip : ℕ) (bs rest : List ℕ) → MayEnd rest → More (drop skip bs) rest
labels_end zero [] rest m = m.letter
labels_end (suc n) [] rest m = m.letter
labels_end (suc n) (b ∷ bs) rest m = labels_end n bs rest m
labels_end zero (b ∷ bs) rest m =
    by_test (λ n. IsTrue (after_letter (take n (b ∷ bs) ++ rest))) (b == byte ".") (after_dot (label_len bs) (λ n. more_labels n bs)) 0
    (λ e. dot_more b bs rest (label_len bs) refl e m (labels_end (label_len bs) bs rest m)) (λ e. m.letter)

domain_good : (bs rest : List ℕ) → 0 < domain_len bs → MayEnd rest → IsTrue (is_host (take (domain_len bs) bs ++ rest))
domain_good bs rest p m =
    by_bool (nat_lt 0 (label_len bs))
    (λ e. let f : domain_len bs ≡ label_len bs + more_labels 0 (drop (label_len bs) bs) = ap (λ b. if b then label_len bs + more_labels 0 (drop (label_len bs) bs) else 0) e in
    ap (λ n. is_host (take n bs ++ rest)) f ∙ ap (λ ys. is_host (ys ++ rest)) (take-add (label_len bs) (more_labels 0 (drop (label_len bs) bs)) bs)
    ∙ ap is_host (append_assoc (take (label_len bs) bs) (take (more_labels 0 (drop (label_len bs) bs)) (drop (label_len bs) bs)) rest)
    ∙ (let tail = take (more_labels 0 (drop (label_len bs) bs)) (drop (label_len bs) bs) ++ rest in host_starts bs tail (label bs tail (ltb-true 0 (label_len bs) e) (labels_end (label_len bs) bs rest m))))
    (λ e. absurd (let f : domain_len bs ≡ 0 = ap (λ b. if b then label_len bs + more_labels 0 (drop (label_len bs) bs) else 0) e in omega arith))

no_more : MayEnd []
no_more = record { letter = refl; dot = refl }

port_more : (b : ℕ) (bs : List ℕ) → IsTrue (b == byte ":") → MayEnd (b ∷ take (prefix_len is_ascii_digit bs) bs)
port_more b bs h =
    let all = all_prefix is_ascii_digit bs in
    record { letter = letter_colon b (take (prefix_len is_ascii_digit bs) bs) h all; dot = or_true_right _ (b == byte ":" && list_all is_ascii_digit (take (prefix_len is_ascii_digit bs) bs)) (both (b == byte ":") _ h all) }

port_ends : (bs : List ℕ) → MayEnd (take (port_len bs) bs)
port_ends [] = by_test (λ n. MayEnd (take n [])) (first [] == byte ":") (1 + prefix_len is_ascii_digit (drop 1 [])) 0 (λ e. cc) (λ e. no_more)
port_ends (b ∷ bs) =
    by_test (λ n. MayEnd (take n (b ∷ bs))) (b == byte ":") (1 + prefix_len is_ascii_digit bs) 0
    (λ e. let f : 1 + prefix_len is_ascii_digit bs ≡ suc (prefix_len is_ascii_digit bs) = omega arith in subst (λ n. MayEnd (take n (b ∷ bs))) (sym f) (port_more b bs e)) (λ e. no_more)

pub host_good : (bs : List ℕ) → 0 < host_len bs → IsTrue (is_host (take (host_len bs) bs))
host_good bs p =
    by_bool (nat_lt 0 (domain_len bs))
    (λ e. let f : host_len bs ≡ domain_len bs + port_len (drop (domain_len bs) bs) = ap (λ b. if b then domain_len bs + port_len (drop (domain_len bs) bs) else 0) e in
    ap (λ n. is_host (take n bs)) f ∙ ap is_host (take-add (domain_len bs) (port_len (drop (domain_len bs) bs)) bs)
    ∙ domain_good bs (take (port_len (drop (domain_len bs) bs)) (drop (domain_len bs) bs)) (ltb-true 0 (domain_len bs) e) (port_ends (drop (domain_len bs) bs)))
    (λ e. absurd (let f : host_len bs ≡ 0 = ap (λ b. if b then domain_len bs + port_len (drop (domain_len bs) bs) else 0) e in omega arith))

-- ---- the form

one_or_more_some : (cs : List (List ℕ)) → IsTrue (has_some (one_or_more cs))
one_or_more_some [] = refl
one_or_more_some (c ∷ cs) = refl

one_or_more_all : (cs : List (List ℕ)) → IsTrue (list_all is_segment cs) → IsTrue (list_all is_segment (one_or_more cs))
one_or_more_all [] h = refl
one_or_more_all (c ∷ cs) h = h

url_form_good : (kind : Url → Loc) (before n : ℕ) (bs : List ℕ) → ((u : Url) → IsTrue (has_some u.comps) → IsTrue (url_spellable u) → IsTrue (good_kind (kinds.Url (kind u)))) → IsTrue (is_host (take n bs)) → Good (url_form kind before n bs)
url_form_good kind before n bs h host =
    let cs = components segment 0 (drop n bs) in
    let query = query_of (drop (n + cs.total) bs) in
    let u : Url = record { host = take n bs; comps = one_or_more cs.texts; query = query } in
    let hc = one_or_more_all cs.texts (all_components is_segment segment segment_good 0 (drop n bs)) in
    let hq = query_good (drop (n + cs.total) bs) in
    form_good (Is (kinds.Url (kind u))) (before + n + cs.total + query_len query) (h u (one_or_more_some cs.texts) (rw (host, hc, hq) refl))

after_scheme_good : (kind : Url → Loc) (before : ℕ) (bs : List ℕ) → ((u : Url) → IsTrue (has_some u.comps) → IsTrue (url_spellable u) → IsTrue (good_kind (kinds.Url (kind u)))) → Good (after_scheme kind before bs)
after_scheme_good kind before bs h =
    let n = host_len bs in
    if_good (first bs == byte "[") (form LeftOut (1 + before)) _ (λ e. form_good LeftOut (1 + before) refl)
    (λ e. if_good (n == 0) None _ (λ z. refl)
    (λ z. let pos : 0 < n = nonzero n z in
    if_good (slice_index bs n == byte "@") (form LeftOut (1 + before + n)) (url_form kind before n bs) (λ q. form_good LeftOut (1 + before + n) refl) (λ q. url_form_good kind before n bs h (host_good bs pos))))

pub url_good : (bs : List ℕ) → Good (url bs)
url_good bs =
    if_good (begins "http://" bs) (after_scheme locs.Http 7 (drop 7 bs)) _ (λ e. after_scheme_good locs.Http 7 (drop 7 bs) (λ u a b. both (has_some u.comps) (url_spellable u) a b))
    (λ e. if_good (begins "https://" bs) (after_scheme locs.Https 8 (drop 8 bs)) None (λ f. after_scheme_good locs.Https 8 (drop 8 bs) (λ u a b. both (has_some u.comps) (url_spellable u) a b)) (λ f. refl))
