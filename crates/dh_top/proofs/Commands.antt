-- Which words name a command.
use Rattle.std.proofs.Common.{◌≡◌, ℕ, ◌<◌, ◌≤◌, ◌^◌, List, [], ◌∷◌, length, Bool, true, false, true≢false, Option, Some, None, Result, Ok, Err, if◌then◌else◌, codes, refl, sym, ap, ◌∙◌, subst, arith, nat_le}
use Rattle.std.specs.Prelude.{◌&&◌, ◌==◌, not, cond, find, option_map, slice_index_or, MatchResult}
use Rattle.std.specs.Char.{is_ascii_digit}
use Rattle.std.specs.List.{list_all}
use Rattle.std.specs.Result.{OkIff, result_ok}
use Rattle.std.specs.Str.Parse.{AllDigits, IsNumeral, ParsesUnsigned, digits_value}
use Rattle.std.proofs.lemmas.Bool.{and_parts, leb-true, ne_eqb}
use Rattle.std.proofs.lemmas.Str.Parse.{without_leading_plus_none}
use Rattle.dh_literals.proofs.NumbersRead.{decimal_digit, no_plus}
use Rattle.dh_command.specs.declared.commands.Command.{Command}
use Rattle.dh_command.specs.declared.verbs.Verb.{Verb}
use Rattle.dh_syntax.specs.Limits.{most_workers, default_workers}
use lib.Dec.{eqb}
use lib.Pointwise.{pointwise}
use Rattle.dh_syntax.proofs.NativeTests.{bytes_eq-pointwise}
use Rattle.dh_syntax.proofs.Numbers.{bytes_eq-true}
use Rattle.dh_syntax.specs.Expressions.Numbers.{bytes_eq}
use Rattle.dh_command.specs.Words.{Word, named, verb_of, is_count, workers_of, command_of, operands, options}

-- a word that is none of these
abbrev IsNone : List ℕ → List (Word × Verb) → Type 0
IsNone w [] = Unit {0}
IsNone w (p ∷ ps) = (w ≡ p.0 → ⊥) × IsNone w ps

abbrev second : Option (Word × Verb) → Option Verb
second o = option_map (λ p. p.1) o

passed : (w : List ℕ) (p : Word × Verb) (b : Bool) (rest : Option (Word × Verb)) → bytes_eq p.0 w ≡ b → (w ≡ p.0 → ⊥) → second rest ≡ None → second (cond b (Some p) rest) ≡ None
passed w p true rest e n m = absurd (n (sym (bytes_eq-true p.0 w e)))
passed w p false rest e n m = m

unnamed : (w : List ℕ) (ps : List (Word × Verb)) → IsNone w ps → second (find (λ p. bytes_eq p.0 w) ps) ≡ None
unnamed w [] n = refl
unnamed w (p ∷ ps) n = passed w p (bytes_eq p.0 w) (find (λ p. bytes_eq p.0 w) ps) refl n.0 (unnamed w ps n.1)

-- a word that names no command
pub verb_of-none : (w : List ℕ) → (w ≡ codes "encode" → ⊥) → (w ≡ codes "decode" → ⊥) → (w ≡ codes "resolve" → ⊥) → (w ≡ codes "type" → ⊥) → (w ≡ codes "normalize" → ⊥) → (w ≡ codes "hash" → ⊥) → (w ≡ codes "to-json" → ⊥) → (w ≡ codes "freeze" → ⊥) → (w ≡ codes "batch" → ⊥) → (w ≡ codes "steps" → ⊥) → (w ≡ codes "gen" → ⊥) → (w ≡ codes "explain" → ⊥) → (w ≡ codes "help" → ⊥) → (w ≡ codes "--help" → ⊥) → (w ≡ codes "-h" → ⊥) → (w ≡ codes "--version" → ⊥)
    → None ≡ verb_of w
verb_of-none w k1 k2 k3 k4 k5 k6 k7 k8 k9 k10 k11 k12 k13 k14 k15 k16 =
    sym (unnamed w named (k1, (k2, (k3, (k4, (k5, (k6, (k7, (k8, (k9, (k10, (k11, (k12, (k13, (k14, (k15, (k16, tt)))))))))))))))))

-- a word that names one
pub verb_of-some : (w k : List ℕ) (v : Verb) (b : Bool) → b ≡ pointwise eqb w k → b ≡ true → verb_of k ≡ Some v → Some v ≡ verb_of w
verb_of-some w k v b e t h = sym (ap verb_of (bytes_eq-true w k (bytes_eq-pointwise w k ∙ (sym e ∙ t))) ∙ h)

-- the command of words, by that of the first of them
abbrev by_verb : List Word → Option Verb → Result Command ℕ
by_verb us o = elim o [ None ↦ Err 1 | Some v ↦ options v us ]

pub unnamed_word : (ws : List Word) (w : Word) (us : List Word) (o : Option Verb) → ws ≡ w ∷ us → o ≡ verb_of w → o ≡ None → command_of ws ≡ Err 1
unnamed_word ws w us o e n h = ap command_of e ∙ ap (by_verb us) (sym n ∙ h)

pub named_word : (ws : List Word) (w : Word) (us : List Word) (o : Option Verb) (v : Verb) (r : Result Command ℕ) → ws ≡ w ∷ us → o ≡ verb_of w → o ≡ Some v
    → MatchResult r (λ c. options v us ≡ Ok c) (λ k. options v us ≡ Err k) → MatchResult r (λ c. command_of ws ≡ Ok c) (λ k. command_of ws ≡ Err k)
named_word ws w us o v (Ok c) e n h p = ap command_of e ∙ (ap (by_verb us) (sym n ∙ h) ∙ p)
named_word ws w us o v (Err k) e n h p = ap command_of e ∙ (ap (by_verb us) (sym n ∙ h) ∙ p)

-- ---- numbers of workers

-- a word that begins with no 0 is a count where all of it is digits
pub count_by : (w : List ℕ) (r : Bool) → 1 ≤ length w → (slice_index_or w 0 0 ≡ 48 → ⊥) → r ≡ list_all is_ascii_digit w → r ≡ is_count w
count_by [] r l h e = absurd (omega (arith, l))
count_by (b ∷ bs) r l h e = subst (λ t. r ≡ (not t && list_all is_ascii_digit (b ∷ bs))) (sym (ne_eqb b 48 h)) e

all_digits : (ds : List ℕ) → list_all is_ascii_digit ds ≡ true → AllDigits 10 ds
all_digits [] h = tt
all_digits (c ∷ cs) h = let parts = and_parts (is_ascii_digit c) (list_all is_ascii_digit cs) h in (decimal_digit c parts.0, all_digits cs parts.1)

count_numeral : (w : List ℕ) → is_count w ≡ true → IsNumeral 10 w
count_numeral [] h = absurd (true≢false (sym h))
count_numeral (b ∷ bs) h = (omega arith, all_digits (b ∷ bs) (and_parts (not (b == 48)) (list_all is_ascii_digit (b ∷ bs)) h).1)

too_large : (v : ℕ) (t : Bool) → nat_le v 64 ≡ t → (v < 2 ^ 32 → ⊥) → None ≡ (if t then Some v else None)
too_large v true e h = absurd (h (let k = leb-true v 64 e in omega (arith, k)))
too_large v false e h = refl

abbrev has : Option ℕ → Bool
has (Some n) = true
has None = false

unparsed_by : {E : Type 0} (w : List ℕ) (r : Result ℕ E) → IsNumeral 10 w → OkIff r (IsNumeral 10 w × (digits_value 10 w < 2 ^ 32)) (digits_value 10 w) → result_ok r ≡ None
    → digits_value 10 w < 2 ^ 32 → ⊥
unparsed_by w (Ok x) n h e small = true≢false (ap has e)
unparsed_by w (Err x) n h e small = h (n, small)

-- a count that is no number of 32 bits is too large
pub unparsed : {E : Type 0} (w : List ℕ) (r : Result ℕ E) → is_count w ≡ true → ParsesUnsigned 32 10 w r → result_ok r ≡ None → None ≡ workers_of w
unparsed {E} w r c p e =
    let n = count_numeral w c in
    let P : List ℕ → Type 0 = λ t. OkIff r (IsNumeral 10 t × (digits_value 10 t < 2 ^ 32)) (digits_value 10 t) in
    let large = unparsed_by w r n (subst P (without_leading_plus_none w (no_plus 10 w (omega arith) n)) p) e in
    subst (λ b. None ≡ (if b && nat_le (digits_value 10 w) most_workers then Some (digits_value 10 w) else None)) (sym c) (too_large (digits_value 10 w) (nat_le (digits_value 10 w) 64) refl large)

-- ---- words behind the command

either : (v : Verb) (b : Bool) (w : Word) (us : List Word) (x : Result Command ℕ) → b ≡ false
    → (if b then x else operands v default_workers 2 (w ∷ us)) ≡ operands v default_workers 2 (w ∷ us)
either v true w us x e = absurd (true≢false e)
either v false w us x e = refl

options-other : (v : Verb) (w : Word) (us : List Word) → bytes_eq w (codes "--workers") ≡ false → options v (w ∷ us) ≡ operands v default_workers 2 (w ∷ us)
options-other v w us e = either v (bytes_eq w (codes "--workers")) w us _ e

-- a word other than `--workers` is an operand
pub other_word : (v : Verb) (ws : List Word) (w : Word) (us : List Word) (r : Result Command ℕ) → ws ≡ w ∷ us → bytes_eq w (codes "--workers") ≡ false
    → MatchResult r (λ c. operands v default_workers 2 ws ≡ Ok c) (λ k. operands v default_workers 2 ws ≡ Err k)
    → MatchResult r (λ c. options v ws ≡ Ok c) (λ k. options v ws ≡ Err k)
other_word v ws w us (Ok c) e t h = ap (options v) e ∙ (options-other v w us t ∙ (ap (operands v default_workers 2) (sym e) ∙ h))
other_word v ws w us (Err k) e t h = ap (options v) e ∙ (options-other v w us t ∙ (ap (operands v default_workers 2) (sym e) ∙ h))
