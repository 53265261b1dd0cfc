-- The operands of a command line.
use Rattle.std.proofs.Common.{◌≡◌, ℕ, zero, suc, ◌+◌, List, [], ◌∷◌, drop, Bool, true, false, true≢false, Option, Some, None, Result, Ok, Err, if◌then◌else◌, codes, refl, sym, ap, ◌∙◌, subst}
use Rattle.std.specs.Prelude.{IsOk, MatchBool, MatchResult}
use Rattle.dh_command.specs.declared.commands.Command.{Command}
use Rattle.dh_command.specs.declared.verbs.Verb.{Verb}
use Rattle.dh_command.specs.declared.verbs.Verb.TheVariants as verb
use Rattle.dh_command.specs.Words.{Word, AreFit, command_of, verb_of, options, counted, operands, with_operands, most_operands, takes_files, takes_number, takes_rule, behind_workers, operand_words, workers_of}
use Rattle.dh_explain.specs.RuleWords.{alone, operand_text, rule_text}
use Rattle.dh_files.specs.FileWords.{is_file, more_files, most_files, operand_files, with_file}
use Rattle.dh_gen.specs.NumberWords as numbers
use Rattle.dh_gen.specs.NumberWords.{operand_number}
use Rattle.dh_gen.specs.Numbers.{number_of}
use Rattle.dh_steps.specs.StepWords.{most_places, operand_places, place_of, with_place}
use Rattle.dh_syntax.specs.Expressions.Numbers.{bytes_eq}
use Rattle.dh_syntax.specs.Limits.{default_workers}

-- ---- places have no numbers of their own

ok_behind : (left at at' : ℕ) (o : Option (List ℕ)) (r s : Result (List (List ℕ)) ℕ) → (IsOk r → IsOk s) → IsOk (with_place at o r) → IsOk (with_place at' o s)
ok_behind left at at' None r s h ok = ok
ok_behind left at at' (Some place) (Ok ps) (Ok qs) h ok = refl
ok_behind left at at' (Some place) (Ok ps) (Err k) h ok = h refl
ok_behind left at at' (Some place) (Err k) s h ok = absurd (true≢false (sym ok))

ok_anywhere : (left at at' : ℕ) (ws : List (List ℕ)) → IsOk (operand_places left at ws) → IsOk (operand_places left at' ws)
ok_anywhere left at at' [] ok = refl
ok_anywhere zero at at' (w ∷ ws) ok = ok
ok_anywhere (suc left) at at' (w ∷ ws) ok =
    ok_behind left at at' (place_of w) (operand_places left (at + 1) ws) (operand_places left (at' + 1) ws) (λ h. ok_anywhere left (at + 1) (at' + 1) ws h) ok

-- ---- nor has a rule

rule_anywhere : (at at' : ℕ) (o : Option (List ℕ)) (ws : List Word) → IsOk (alone at o ws) → IsOk (alone at' o ws)
rule_anywhere at at' None ws ok = ok
rule_anywhere at at' (Some text) [] ok = ok
rule_anywhere at at' (Some text) (w ∷ ws) ok = ok

text_anywhere : (at at' : ℕ) (ws : List Word) → IsOk (operand_text at ws) → IsOk (operand_text at' ws)
text_anywhere at at' [] ok = ok
text_anywhere at at' (w ∷ ws) ok = rule_anywhere at at' (rule_text w) ws ok

-- ---- nor have files

file_anywhere : (b : Bool) (w : Word) (at at' : ℕ) (r s : Result (List (List ℕ)) ℕ) → (IsOk r → IsOk s) → IsOk (if b then with_file w r else Err at) → IsOk (if b then with_file w s else Err at')
file_anywhere false w at at' r s h ok = ok
file_anywhere true w at at' (Ok ps) (Ok qs) h ok = refl
file_anywhere true w at at' (Ok ps) (Err k) h ok = h refl
file_anywhere true w at at' (Err k) s h ok = absurd (true≢false (sym ok))

more_anywhere : (left at at' : ℕ) (ws : List Word) → IsOk (more_files left at ws) → IsOk (more_files left at' ws)
more_anywhere left at at' [] ok = refl
more_anywhere zero at at' (w ∷ ws) ok = ok
more_anywhere (suc left) at at' (w ∷ ws) ok =
    file_anywhere (is_file w) w at at' (more_files left (at + 1) ws) (more_files left (at' + 1) ws) (λ h. more_anywhere left (at + 1) (at' + 1) ws h) ok

files_anywhere : (at at' : ℕ) (ws : List Word) → IsOk (operand_files at ws) → IsOk (operand_files at' ws)
files_anywhere at at' [] ok = ok
files_anywhere at at' (w ∷ ws) ok = more_anywhere most_files at at' (w ∷ ws) ok

-- ---- nor has a number

one_anywhere : (at at' : ℕ) (o : Option ℕ) (ws : List Word) → IsOk (numbers.alone at o ws) → IsOk (numbers.alone at' o ws)
one_anywhere at at' None ws ok = ok
one_anywhere at at' (Some n) [] ok = ok
one_anywhere at at' (Some n) (w ∷ ws) ok = ok

number_anywhere : (at at' : ℕ) (ws : List Word) → IsOk (operand_number at ws) → IsOk (operand_number at' ws)
number_anywhere at at' [] ok = ok
number_anywhere at at' (w ∷ ws) ok = one_anywhere at at' (number_of w) ws ok

-- ---- a command line names its operands

-- the operands of a command that takes a rule, files, a number, or places
abbrev by_kind : Bool → Bool → Bool → Command → ℕ → ℕ → List Word → Result Command ℕ
by_kind b t k c most at ws =
    if b then with_operands c (operand_text at ws) else if t then with_operands c (operand_files at ws) else if k then with_operands c (operand_number at ws) else with_operands c (operand_places most at ws)

abbrev command_or : Command → Result Command ℕ → Command
command_or c (Ok d) = d
command_or c (Err k) = c

abbrev is_command : Result Command ℕ → Bool
is_command (Ok c) = true
is_command (Err k) = false

err_not_ok : {P : Type 0} (k : ℕ) (r : Result Command ℕ) (c : Command) → r ≡ Err k → r ≡ Ok c → P
err_not_ok k r c f e = absurd (true≢false (ap is_command (sym e ∙ f)))

with_these : {X : Type 0} (c d : Command) (r : Result X ℕ) → with_operands c r ≡ Ok d → (c ≡ d) × IsOk r
with_these c d (Ok named) e = (ap (command_or c) e, refl)
with_these c d (Err k) e = err_not_ok k (Err k) d refl e

fit_kind : (b t k : Bool) (c d : Command) (most at : ℕ) (ws : List Word) → by_kind b t k c most at ws ≡ Ok d
    → (c ≡ d) × MatchBool b (IsOk (operand_text 1 ws)) (MatchBool t (IsOk (operand_files 1 ws)) (MatchBool k (IsOk (operand_number 1 ws)) (IsOk (operand_places most 1 ws))))
fit_kind true t k c d most at ws e = let (same, ok) = with_these c d (operand_text at ws) e in (same, text_anywhere at 1 ws ok)
fit_kind false true k c d most at ws e = let (same, ok) = with_these c d (operand_files at ws) e in (same, files_anywhere at 1 ws ok)
fit_kind false false true c d most at ws e = let (same, ok) = with_these c d (operand_number at ws) e in (same, number_anywhere at 1 ws ok)
fit_kind false false false c d most at ws e = let (same, ok) = with_these c d (operand_places most at ws) e in (same, ok_anywhere most at 1 ws ok)

fit_operands : (v : Verb) (workers at : ℕ) (ws : List Word) (d : Command) → operands v workers at ws ≡ Ok d → AreFit d.verb ws
fit_operands v workers at ws d e =
    let (same, fit) = fit_kind (takes_rule v) (takes_files v) (takes_number v) (record { verb = v; workers = workers }) d (most_operands v) at ws e in
    subst (λ (x : Command). AreFit x.verb ws) same fit

fit_counted : (o : Option ℕ) (v : Verb) (rest : List Word) (c : Command) → ◌≡◌ {A = Result Command ℕ} (elim o [ None ↦ Err 3 | Some n ↦ operands v n 4 rest ]) (Ok c) → AreFit c.verb rest
fit_counted None v rest c e = err_not_ok 3 (Err 3) c refl e
fit_counted (Some n) v rest c e = fit_operands v n 4 rest c e

fit_behind : (b : Bool) (v : Verb) (w : Word) (us : List Word) (c : Command) → (if b then counted v us else operands v default_workers 2 (w ∷ us)) ≡ Ok c
    → AreFit c.verb (if b then drop 1 us else w ∷ us)
fit_behind true v w [] c e = err_not_ok 3 (Err 3) c refl e
fit_behind true v w (n ∷ rest) c e = fit_counted (workers_of n) v rest c e
fit_behind false v w us c e = fit_operands v default_workers 2 (w ∷ us) c e

fit_options : (v : Verb) (ws : List Word) (c : Command) → options v ws ≡ Ok c → AreFit c.verb (behind_workers ws)
fit_options v [] c e = fit_operands v default_workers 2 [] c e
fit_options v (w ∷ us) c e = fit_behind (bytes_eq w (codes "--workers")) v w us c e

fit_named : (o : Option Verb) (ws : List Word) (c : Command) → ◌≡◌ {A = Result Command ℕ} (elim o [ None ↦ Err 1 | Some v ↦ options v ws ]) (Ok c) → AreFit c.verb (behind_workers ws)
fit_named None ws c e = err_not_ok 1 (Err 1) c refl e
fit_named (Some v) ws c e = fit_options v ws c e

fit_words : (words : List Word) (c : Command) → command_of words ≡ Ok c → AreFit c.verb (operand_words words)
fit_words [] c e = err_not_ok 1 (Err 1) c refl e
fit_words (w ∷ ws) c e = fit_named (verb_of w) ws c e

-- the operands of a command line suit its command
pub fit_by : (words : List Word) (c : Command) (ops : List Word) → command_of words ≡ Ok c → ops ≡ operand_words words → AreFit c.verb ops
fit_by words c ops e is = subst (AreFit c.verb) (sym is) (fit_words words c e)

-- ---- reading them

named_ok : {X : Type 0} (c : Command) (r : Result X ℕ) → IsOk r → with_operands c r ≡ Ok c
named_ok c (Ok named) ok = refl
named_ok c (Err k) ok = absurd (true≢false (sym ok))

rule_ok : (b t k : Bool) (c : Command) (most at : ℕ) (ws : List Word) → b ≡ true → IsOk (operand_text at ws) → by_kind b t k c most at ws ≡ Ok c
rule_ok true t k c most at ws is ok = named_ok c (operand_text at ws) ok
rule_ok false t k c most at ws is ok = absurd (true≢false (sym is))

rule_err : (b t k : Bool) (c : Command) (most at : ℕ) (ws : List Word) (j : ℕ) → b ≡ true → operand_text at ws ≡ Err j → by_kind b t k c most at ws ≡ Err j
rule_err true t k c most at ws j is e = ap (with_operands c) e
rule_err false t k c most at ws j is e = absurd (true≢false (sym is))

files_ok : (b t k : Bool) (c : Command) (most at : ℕ) (ws : List Word) → b ≡ false → t ≡ true → IsOk (operand_files at ws) → by_kind b t k c most at ws ≡ Ok c
files_ok true t k c most at ws is are ok = absurd (true≢false is)
files_ok false true k c most at ws is are ok = named_ok c (operand_files at ws) ok
files_ok false false k c most at ws is are ok = absurd (true≢false (sym are))

files_err : (b t k : Bool) (c : Command) (most at : ℕ) (ws : List Word) (j : ℕ) → b ≡ false → t ≡ true → operand_files at ws ≡ Err j → by_kind b t k c most at ws ≡ Err j
files_err true t k c most at ws j is are e = absurd (true≢false is)
files_err false true k c most at ws j is are e = ap (with_operands c) e
files_err false false k c most at ws j is are e = absurd (true≢false (sym are))

number_ok : (b t k : Bool) (c : Command) (most at : ℕ) (ws : List Word) → b ≡ false → t ≡ false → k ≡ true → IsOk (operand_number at ws) → by_kind b t k c most at ws ≡ Ok c
number_ok true t k c most at ws is are one ok = absurd (true≢false is)
number_ok false true k c most at ws is are one ok = absurd (true≢false are)
number_ok false false true c most at ws is are one ok = named_ok c (operand_number at ws) ok
number_ok false false false c most at ws is are one ok = absurd (true≢false (sym one))

number_err : (b t k : Bool) (c : Command) (most at : ℕ) (ws : List Word) (j : ℕ) → b ≡ false → t ≡ false → k ≡ true → operand_number at ws ≡ Err j → by_kind b t k c most at ws ≡ Err j
number_err true t k c most at ws j is are one e = absurd (true≢false is)
number_err false true k c most at ws j is are one e = absurd (true≢false are)
number_err false false true c most at ws j is are one e = ap (with_operands c) e
number_err false false false c most at ws j is are one e = absurd (true≢false (sym one))

places_ok : (b t k : Bool) (c : Command) (most at : ℕ) (ws : List Word) → b ≡ false → t ≡ false → k ≡ false → IsOk (operand_places most at ws) → by_kind b t k c most at ws ≡ Ok c
places_ok true t k c most at ws is are one ok = absurd (true≢false is)
places_ok false true k c most at ws is are one ok = absurd (true≢false are)
places_ok false false true c most at ws is are one ok = absurd (true≢false one)
places_ok false false false c most at ws is are one ok = named_ok c (operand_places most at ws) ok

places_err : (b t k : Bool) (c : Command) (most at : ℕ) (ws : List Word) (j : ℕ) → b ≡ false → t ≡ false → k ≡ false → operand_places most at ws ≡ Err j → by_kind b t k c most at ws ≡ Err j
places_err true t k c most at ws j is are one e = absurd (true≢false is)
places_err false true k c most at ws j is are one e = absurd (true≢false are)
places_err false false true c most at ws j is are one e = absurd (true≢false one)
places_err false false false c most at ws j is are one e = ap (with_operands c) e

-- whether they are operands of a command, by its kind
abbrev Checks : {U : Type 0} → Verb → ℕ → List Word → Result U ℕ → Type 0
Checks v at ws r = MatchResult r (λ _. (workers : ℕ) → operands v workers at ws ≡ Ok (record { verb = v; workers = workers })) (λ k. (workers : ℕ) → operands v workers at ws ≡ Err k)

pub rule_checked : {U : Type 0} (v : Verb) (at : ℕ) (ws : List Word) (r : Result U ℕ) → takes_rule v ≡ true
    → MatchResult r (λ _. IsOk (operand_text at ws)) (λ k. operand_text at ws ≡ Err k) → Checks v at ws r
rule_checked v at ws (Ok done) is h = λ workers. rule_ok (takes_rule v) (takes_files v) (takes_number v) (record { verb = v; workers = workers }) (most_operands v) at ws is h
rule_checked v at ws (Err k) is h = λ workers. rule_err (takes_rule v) (takes_files v) (takes_number v) (record { verb = v; workers = workers }) (most_operands v) at ws k is h

pub files_checked : {U : Type 0} (v : Verb) (at : ℕ) (ws : List Word) (r : Result U ℕ) → takes_rule v ≡ false → takes_files v ≡ true
    → MatchResult r (λ _. IsOk (operand_files at ws)) (λ k. operand_files at ws ≡ Err k) → Checks v at ws r
files_checked v at ws (Ok done) is are h = λ workers. files_ok (takes_rule v) (takes_files v) (takes_number v) (record { verb = v; workers = workers }) (most_operands v) at ws is are h
files_checked v at ws (Err k) is are h = λ workers. files_err (takes_rule v) (takes_files v) (takes_number v) (record { verb = v; workers = workers }) (most_operands v) at ws k is are h

pub number_checked : {U : Type 0} (v : Verb) (at : ℕ) (ws : List Word) (r : Result U ℕ) → takes_rule v ≡ false → takes_files v ≡ false → takes_number v ≡ true
    → MatchResult r (λ _. IsOk (operand_number at ws)) (λ k. operand_number at ws ≡ Err k) → Checks v at ws r
number_checked v at ws (Ok done) is are one h =
    λ workers. number_ok (takes_rule v) (takes_files v) (takes_number v) (record { verb = v; workers = workers }) (most_operands v) at ws is are one h
number_checked v at ws (Err k) is are one h =
    λ workers. number_err (takes_rule v) (takes_files v) (takes_number v) (record { verb = v; workers = workers }) (most_operands v) at ws k is are one h

pub places_checked : {U : Type 0} (v : Verb) (at most : ℕ) (ws : List Word) (r : Result U ℕ) → takes_rule v ≡ false → takes_files v ≡ false → takes_number v ≡ false → most ≡ most_operands v
    → MatchResult r (λ _. IsOk (operand_places most at ws)) (λ k. operand_places most at ws ≡ Err k) → Checks v at ws r
places_checked v at most ws (Ok done) is are one m h =
    λ workers.
    places_ok (takes_rule v) (takes_files v) (takes_number v) (record { verb = v; workers = workers }) (most_operands v) at ws is are one (subst (λ n. IsOk (operand_places n at ws)) m h)
places_checked v at most ws (Err k) is are one m h =
    λ workers.
    places_err (takes_rule v) (takes_files v) (takes_number v) (record { verb = v; workers = workers }) (most_operands v) at ws k is are one (subst (λ n. operand_places n at ws ≡ Err k) m h)

-- ---- a number

is_gen : (v : Verb) → takes_number v ≡ true → v ≡ verb.Gen
is_gen verb.Gen h = refl
is_gen verb.Encode h = absurd (true≢false (sym h))
is_gen verb.Decode h = absurd (true≢false (sym h))
is_gen verb.Resolve h = absurd (true≢false (sym h))
is_gen verb.Type h = absurd (true≢false (sym h))
is_gen verb.Normalize h = absurd (true≢false (sym h))
is_gen verb.Hash h = absurd (true≢false (sym h))
is_gen verb.ToJson h = absurd (true≢false (sym h))
is_gen verb.Freeze h = absurd (true≢false (sym h))
is_gen verb.Batch h = absurd (true≢false (sym h))
is_gen verb.Steps h = absurd (true≢false (sym h))
is_gen verb.Explain h = absurd (true≢false (sym h))
is_gen verb.Help h = absurd (true≢false (sym h))
is_gen verb.Version h = absurd (true≢false (sym h))

pub gen_of : (v : Verb) (t : Bool) → t ≡ takes_number v → t ≡ true → v ≡ verb.Gen
gen_of v t e h = is_gen v (sym e ∙ h)

pub not_gen : (v : Verb) (t : Bool) → t ≡ takes_number v → t ≡ false → takes_number v ≡ false
not_gen v t e h = sym e ∙ h

-- the operand of a command that takes a number
pub number_fit : (v : Verb) (ops : List Word) → v ≡ verb.Gen → AreFit v ops → IsOk (operand_number 1 ops)
number_fit v ops g fit = subst (λ v. AreFit v ops) g fit
