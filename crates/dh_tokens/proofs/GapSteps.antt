-- Steps of the readers of comments.
use Rattle.std.proofs.Common.{◌≡◌, ℕ, zero, suc, ◌+◌, ◌-◌, ◌<◌, ◌≤◌, min, Bool, true, ltb, if◌then◌else◌, ◌==◌, List, [], ◌∷◌, length, take, drop, Some, None, Result, Ok, Err, refl, sym, ap, subst, ◌∙◌, inl, inr, arith}
use Rattle.std.proofs.Math.Nat.{min-eq_left, min-eq_right}
use Rattle.std.proofs.lemmas.Bool.{cases_lt}
use Rattle.std.proofs.lemmas.List.{drop_all, drop-drop, length-drop}
use Rattle.std.specs.Str.{continuation_len}
use Rattle.dh_syntax.specs.Text.Characters.{first, begins, tab, line_end_len, char_len}
use Rattle.dh_syntax.specs.Text.LexForms.{Found, Faulty, Form, form}
use Rattle.dh_syntax.specs.Text.LexGaps.{Comment, ClosedAfter, FaultyAfter, NotClosed, Passes, Stops, block_comment, comment, comment_form, comment_part, line_character, one_further, by_part}
use Rattle.dh_syntax.specs.Text.Stretches.{Character, Reads, Ends, Faults, Stretch, UpTo, FaultAt, further, stretch, itself, good_character, by_character}
use Rattle.dh_syntax.proofs.LexingLaws.{lengthened, stretch-skip, after_bytes, comment-skip}
use Rattle.dh_tokens.specs.Inside.Gaps.{extent}

-- an extent with so many bytes before it
abbrev pub behind : ℕ → Result ℕ ℕ → Result ℕ ℕ
behind k (Ok n) = Ok (k + n)
behind k (Err n) = Err (k + n)

pub behind-behind : (j k : ℕ) (r : Result ℕ ℕ) → behind j (behind k r) ≡ behind (j + k) r
behind-behind j k (Ok n) = let e : j + (k + n) ≡ j + k + n = omega arith in ap Ok e
behind-behind j k (Err n) = let e : j + (k + n) ≡ j + k + n = omega arith in ap Err e

extent-lengthened : (front : List ℕ) (k : ℕ) (s : Stretch) → extent (further front (lengthened k s)) ≡ behind (suc k) (extent s)
extent-lengthened front k (UpTo text n) = let e : suc (k + n) ≡ suc k + n = omega arith in ap Ok e
extent-lengthened front k (FaultAt n) = let e : suc (k + n) ≡ suc k + n = omega arith in ap Err e

-- what begins past the end is empty
pub stretch-past : (at : List ℕ → Character) (skip : ℕ) (bs : List ℕ) → length bs ≤ skip → stretch at skip bs ≡ UpTo [] (length bs)
stretch-past at skip [] h = refl
stretch-past at zero (b ∷ bs) h = absurd (omega (arith, h))
stretch-past at (suc skip) (b ∷ bs) h = ap (further []) (stretch-past at skip bs (omega (arith, h)))

stretch-clamped_past : (at : List ℕ → Character) (skip m : ℕ) (bs : List ℕ) → length bs ≤ skip → m ≡ min skip (length bs) → stretch at skip bs ≡ lengthened m (stretch at 0 (drop m bs))
stretch-clamped_past at skip m bs past e =
    let m_is : m ≡ length bs = e ∙ min-eq_right past in
    let none : length bs ≤ length bs = omega arith in
    let rest : drop (length bs) bs ≡ [] = drop_all (length bs) bs none in
    let n_is : length bs + 0 ≡ length bs = omega arith in
    stretch-past at skip bs past ∙ sym (ap (λ n. UpTo [] n) n_is) ∙ sym (ap (λ t. lengthened (length bs) (stretch at 0 t)) rest) ∙ sym (ap (λ n. lengthened n (stretch at 0 (drop n bs))) m_is)

stretch-clamped_in : (at : List ℕ → Character) (skip m : ℕ) (bs : List ℕ) → skip ≤ length bs → m ≡ min skip (length bs) → stretch at skip bs ≡ lengthened m (stretch at 0 (drop m bs))
stretch-clamped_in at skip m bs in_reach e =
    let m_is : m ≡ skip = e ∙ min-eq_left in_reach in
    stretch-skip at skip bs in_reach ∙ sym (ap (λ n. lengthened n (stretch at 0 (drop n bs))) m_is)

-- the rest from a place on, also where it begins past the end
pub stretch-clamped : (at : List ℕ → Character) (skip m : ℕ) (bs : List ℕ) → m ≡ min skip (length bs) → stretch at skip bs ≡ lengthened m (stretch at 0 (drop m bs))
stretch-clamped at skip m bs e = elim (cases_lt (length bs) skip) [ inl past ↦ stretch-clamped_past at skip m bs (omega arith) e | inr in_reach ↦ stretch-clamped_in at skip m bs in_reach e ]

-- one character further on
pub extent-step : (at : List ℕ → Character) (front : List ℕ) (k m : ℕ) (bs : List ℕ) → 0 < length bs → at bs ≡ Reads front (suc k) → m ≡ min (suc k) (length bs) → extent (stretch at 0 bs) ≡ behind m (extent (stretch at 0 (drop m bs)))
extent-step at front k m [] some read e = absurd (omega (arith, some))
extent-step at front k zero (b ∷ bs) some read e = absurd (omega (arith, e))
extent-step at front k (suc m) (b ∷ bs) some read e =
    let m_is : m ≡ min k (length bs) = omega (arith, e) in
    ap (λ c. extent (by_character c (λ n. stretch at n bs))) read
    ∙ ap (λ s. extent (further front s)) (stretch-clamped at k m bs m_is)
    ∙ extent-lengthened front m (stretch at 0 (drop m bs))

-- a character that may stand in a line does
pub line_reads : (bs : List ℕ) (stands : Bool) → line_end_len bs ≡ 0 → (if stands then itself bs else Faults) ≡ (if first bs == tab then itself bs else good_character bs) → line_character bs ≡ (if stands then itself bs else Faults)
line_reads bs stands none e = ap (λ n. if ltb 0 n then Ends else (if first bs == tab then itself bs else good_character bs)) none ∙ sym e

-- a loop's step
pub line-step : (bs here : List ℕ) (n m : ℕ) (stands : Bool) → here ≡ drop n bs → n < length bs → line_end_len here ≡ 0 → stands ≡ true
    → (if stands then itself here else Faults) ≡ (if first here == tab then itself here else good_character here)
    → m ≡ min (char_len here) (length here)
    → extent (stretch line_character 0 bs) ≡ behind n (extent (stretch line_character 0 (drop n bs)))
    → extent (stretch line_character 0 bs) ≡ behind (n + m) (extent (stretch line_character 0 (drop (n + m) bs)))
line-step bs here n m stands here_is within none yes' e m_is so_far =
    let some : 0 < length here = omega (arith, length-drop n bs, ap length here_is) in
    let reads : line_character here ≡ itself here = line_reads here stands none e ∙ ap (λ (b : Bool). if b then itself here else Faults) yes' in
    so_far
    ∙ ap (λ t. behind n (extent (stretch line_character 0 t))) (sym here_is)
    ∙ ap (behind n) (extent-step line_character (take (char_len here) here) (continuation_len (first here)) m here some reads m_is)
    ∙ behind-behind n m (extent (stretch line_character 0 (drop m here)))
    ∙ ap (λ t. behind (n + m) (extent (stretch line_character 0 t))) (ap (drop m) here_is ∙ drop-drop m n bs)

-- a comment further on

pub after_bytes-after_bytes : (j k : ℕ) (c : Comment) → after_bytes j (after_bytes k c) ≡ after_bytes (j + k) c
after_bytes-after_bytes j k (ClosedAfter n) = let e : j + (k + n) ≡ j + k + n = omega arith in ap ClosedAfter e
after_bytes-after_bytes j k (FaultyAfter n) = let e : j + (k + n) ≡ j + k + n = omega arith in ap FaultyAfter e
after_bytes-after_bytes j k NotClosed = refl

one_further-after_bytes : (k : ℕ) (c : Comment) → one_further (after_bytes k c) ≡ after_bytes (suc k) c
one_further-after_bytes k (ClosedAfter n) = let e : suc (k + n) ≡ suc k + n = omega arith in ap ClosedAfter e
one_further-after_bytes k (FaultyAfter n) = let e : suc (k + n) ≡ suc k + n = omega arith in ap FaultyAfter e
one_further-after_bytes k NotClosed = refl

comment-past : (inner skip : ℕ) (bs : List ℕ) → length bs ≤ skip → comment inner skip bs ≡ NotClosed
comment-past inner skip [] h = refl
comment-past inner zero (b ∷ bs) h = absurd (omega (arith, h))
comment-past inner (suc skip) (b ∷ bs) h = ap one_further (comment-past inner skip bs (omega (arith, h)))

comment-clamped_past : (inner skip m : ℕ) (bs : List ℕ) → length bs ≤ skip → m ≡ min skip (length bs) → comment inner skip bs ≡ after_bytes m (comment inner 0 (drop m bs))
comment-clamped_past inner skip m bs past e =
    let m_is : m ≡ length bs = e ∙ min-eq_right past in
    let none : length bs ≤ m = omega arith in
    let rest : drop m bs ≡ [] = drop_all m bs none in
    comment-past inner skip bs past ∙ sym (ap (λ t. after_bytes m (comment inner 0 t)) rest)

comment-clamped_in : (inner skip m : ℕ) (bs : List ℕ) → skip ≤ length bs → m ≡ min skip (length bs) → comment inner skip bs ≡ after_bytes m (comment inner 0 (drop m bs))
comment-clamped_in inner skip m bs in_reach e =
    let m_is : m ≡ skip = e ∙ min-eq_left in_reach in
    comment-skip inner skip bs in_reach ∙ sym (ap (λ n. after_bytes n (comment inner 0 (drop n bs))) m_is)

-- the rest from a place on, also where it begins past the end
pub comment-clamped : (inner skip m : ℕ) (bs : List ℕ) → m ≡ min skip (length bs) → comment inner skip bs ≡ after_bytes m (comment inner 0 (drop m bs))
comment-clamped inner skip m bs e = elim (cases_lt (length bs) skip) [ inl past ↦ comment-clamped_past inner skip m bs (omega arith) e | inr in_reach ↦ comment-clamped_in inner skip m bs in_reach e ]

-- one part further on
pub comment-passes : (inner k m : ℕ) (bs : List ℕ) → 0 < length bs → comment_part bs ≡ Passes k → 0 < k → m ≡ min k (length bs) → comment inner 0 bs ≡ after_bytes m (comment inner 0 (drop m bs))
comment-passes inner k m [] some part forward e = absurd (omega (arith, some))
comment-passes inner zero m (b ∷ bs) some part forward e = absurd (omega (arith, forward))
comment-passes inner (suc k) zero (b ∷ bs) some part forward e = absurd (omega (arith, e))
comment-passes inner (suc k) (suc m) (b ∷ bs) some part forward e =
    let m_is : m ≡ min k (length bs) = omega (arith, e) in
    ap (λ p. by_part p inner (λ i n. comment i n bs)) part
    ∙ ap one_further (comment-clamped inner k m bs m_is)
    ∙ one_further-after_bytes m (comment inner 0 (drop m bs))

pub comment-stops : (inner : ℕ) (bs : List ℕ) → 0 < length bs → comment_part bs ≡ Stops → comment inner 0 bs ≡ FaultyAfter 0
comment-stops inner [] some part = absurd (omega (arith, some))
comment-stops inner (b ∷ bs) some part = ap (λ p. by_part p inner (λ i n. comment i n bs)) part

form-some : (found : Found) (n : ℕ) → form found (n + 1) ≡ Some (record { found = found; len = n + 1 })
form-some found n = let e : n + 1 ≡ suc n = omega arith in subst (λ k. form found k ≡ Some (record { found = found; len = k })) (sym e) refl

-- how far a comment was read
pub record ReadTo (bs here : List ℕ) (inner n : ℕ) : Type 0 where
  pub begun : 2 ≤ n
  pub here_is : here ≡ drop n bs
  pub so_far : comment 0 0 (drop 2 bs) ≡ after_bytes (n - 2) (comment inner 0 here)

-- a loop's step, where so many bytes of what stands there are read
pub comment-step : (bs here : List ℕ) (inner inner' n m : ℕ) → ReadTo bs here inner n → comment inner 0 here ≡ after_bytes m (comment inner' 0 (drop m here))
    → comment 0 0 (drop 2 bs) ≡ after_bytes (n + m - 2) (comment inner' 0 (drop (n + m) bs))
comment-step bs here inner inner' n m read step =
    let n_is : n - 2 + m ≡ n + m - 2 = omega (arith, read.begun) in
    read.so_far
    ∙ ap (after_bytes (n - 2)) step
    ∙ after_bytes-after_bytes (n - 2) m (comment inner' 0 (drop m here))
    ∙ ap (λ k. after_bytes k (comment inner' 0 (drop m here))) n_is
    ∙ ap (λ t. after_bytes (n + m - 2) (comment inner' 0 t)) (ap (drop m) read.here_is ∙ drop-drop m n bs)

-- the form of a comment whose end or fault stands at a place
pub comment_ends : (bs here : List ℕ) (inner n : ℕ) (last : Comment) → begins "{-" bs ≡ true → ReadTo bs here inner n → comment inner 0 here ≡ last
    → block_comment bs ≡ comment_form (after_bytes (n - 2) last)
comment_ends bs here inner n last opens read e =
    ap (λ (b : Bool). if b then comment_form (comment 0 0 (drop 2 bs)) else None) opens ∙ ap comment_form (read.so_far ∙ ap (after_bytes (n - 2)) e)

pub read_to : (bs here : List ℕ) (inner n : ℕ) → 2 ≤ n → here ≡ drop n bs → comment 0 0 (drop 2 bs) ≡ after_bytes (n - 2) (comment inner 0 (drop n bs)) → ReadTo bs here inner n
read_to bs here inner n begun here_is so_far = record { begun = begun; here_is = here_is; so_far = so_far ∙ ap (λ t. after_bytes (n - 2) (comment inner 0 t)) (sym here_is) }

-- a part that passes
pub comment-step_passes : (bs here : List ℕ) (inner n k m : ℕ) → ReadTo bs here inner n → 0 < length here → Passes k ≡ comment_part here → 0 < k → m ≡ min k (length here)
    → comment 0 0 (drop 2 bs) ≡ after_bytes (n + m - 2) (comment inner 0 (drop (n + m) bs))
comment-step_passes bs here inner n k m read some part forward e = comment-step bs here inner inner n m read (comment-passes inner k m here some (sym part) forward e)

-- a part that cannot stand there
pub comment_faulty : (bs here : List ℕ) (inner n : ℕ) → begins "{-" bs ≡ true → ReadTo bs here inner n → 0 < length here → Stops ≡ comment_part here
    → Some (record { found = Faulty n; len = n + 1 }) ≡ block_comment bs
comment_faulty bs here inner n opens read some part =
    let at_n : 2 + (n - 2 + 0) ≡ n = omega (arith, read.begun) in
    let longer_by : 3 + (n - 2 + 0) ≡ n + 1 = omega (arith, read.begun) in
    let found : Form = record { found = Faulty n; len = n + 1 } in
    sym (comment_ends bs here inner n (FaultyAfter 0) opens read (comment-stops inner here some (sym part))
    ∙ ap (λ k. form (Faulty k) (3 + (n - 2 + 0))) at_n ∙ ap (λ k. form (Faulty n) k) longer_by ∙ form-some (Faulty n) n)
