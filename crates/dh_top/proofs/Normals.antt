-- An expression that has a type, and its normal form within the purse, is answered with it.
use Rattle.std.proofs.Common.{◌≡◌, inl, inr, ℕ, ◌+◌, List, [], Bool, false, true, true≢false, Result, Ok, Err, refl, ap, sym, ◌∙◌, subst, arith}
use Rattle.std.specs.Prelude.{IsTrue}
use Rattle.dh_syntax.specs.declared.faults.NormFault.{NormFault}
use Rattle.dh_syntax.specs.declared.faults.NormFault.TheVariants as limit
use Rattle.dh_command.specs.declared.statuses.Status.TheVariants as status
use Rattle.dh_command.specs.declared.verbs.Verb.{Verb}
use Rattle.dh_command.specs.declared.verbs.Verb.TheVariants as verb
use Rattle.dh_command.specs.Answer.{TypedAnswer, IsTypedInTime, IsNormalInTime, HasJson, prints, refuses, limited, no_value}
use Rattle.dh_command.specs.Responses.{Response}
use Rattle.dh_command.specs.Words.{takes_form}
use Rattle.dh_syntax.specs.Expressions.Nesting.{nesting}
use Rattle.dh_syntax.specs.Expressions.Tree.{Term}
use Rattle.dh_imports.specs.Readings.{Reading}
use Rattle.dh_json.specs.JsonValue.{json}
use Rattle.serde_json.specs.Data.{Data}
use Rattle.dh_syntax.specs.Limits.{whole_purse}
use Rattle.dh_syntax.specs.Normalising.Heads.{Answer, Found, Wide, Over, Whole, run}
use Rattle.dh_syntax.specs.Normalising.Named.{names}
use Rattle.dh_syntax.specs.Normalising.Normal.{endless, HasNormalForm, Normalises, IsDeepLicensed, IsLicensed, IsWideLicensed}
use Rattle.dh_typing_laws.proofs.Typing.OneTyping.{type_or_refusal}
use Rattle.dh_laws.specs.Runs.{IsWithMore}
use Rattle.dh_laws.proofs.Normalising.RunLimits.{more_units, one_answer, one_normal_form}

abbrev is_found : Answer Term → Bool
is_found (Found f left) = true
is_found _ = false

over_not_found : (e f : Term) (units left : ℕ) → Normalises names units e (Found f left) → Normalises names units e Over → ⊥
over_not_found e f units left p q = true≢false (ap is_found (one_answer names units e (Found f left) Over p q refl refl))

with_more : (e : Term) (units more : ℕ) (a : Answer Term) (h : Normalises names units e a) → IsWithMore more a (run (endless names) h.0 Whole (units + more) e)
with_more e units more a h = subst (λ a. IsWithMore more a (run (endless names) h.0 Whole (units + more) e)) h.1 (more_units (endless names) h.0 Whole units more e)

wide_not_found : (e f : Term) (units left : ℕ) → Normalises names units e (Found f left) → IsWideLicensed names nesting e → ⊥
wide_not_found e f units left p (u, l, q) =
    let sum : u + units ≡ units + u = omega arith in
    let found : Normalises names (units + u) e (Found f (left + u)) = (p.0, with_more e units u (Found f left) p) in
    let wide : Normalises names (units + u) e (Wide (l + units)) = subst (λ n. Normalises names n e (Wide (l + units))) sum (q.0, with_more e u units (Wide l) q) in
    true≢false (ap is_found (one_answer names (units + u) e (Found f (left + u)) (Wide (l + units)) found wide refl refl))

-- no limit of its normal form may be named
pub normal_limits : (e f : Term) (left : ℕ) (l : NormFault) → Normalises names whole_purse e (Found f left) → (IsDeepLicensed names nesting e → ⊥) → (l ≡ limit.Memory → ⊥)
    → IsLicensed names nesting whole_purse e l → ⊥
normal_limits e f left limit.Spent p deep n h = over_not_found e f whole_purse left p h
normal_limits e f left limit.Wide p deep n h = wide_not_found e f whole_purse left p h
normal_limits e f left limit.Deep p deep n h = deep h
normal_limits e f left limit.Memory p deep n h = n refl

abbrev has_value : Result Data (List ℕ) → Bool
has_value (Ok d) = true
has_value (Err place) = false

-- a normal form with a JSON value is not without one
not_without : (e f : Term) (place : List ℕ) → HasJson e → HasNormalForm names e f → json f ≡ Err place → ⊥
not_without e f place (g, d, has, same) h j = true≢false (ap has_value (sym same ∙ (ap json (one_normal_form names e g f has h) ∙ j)))

-- what is answered where it has a type for which no limit may be named, and where its normal form is in time
typed_ends_ok : (v : Verb) (i : Reading) (e : Term) (w : Response) → IsTypedInTime e → (v ≡ verb.ToJson → HasJson e)
    → ((l : NormFault) → (l ≡ limit.Memory → ⊥) → IsTrue (takes_form v) → IsLicensed names nesting whole_purse e l → ⊥)
    → TypedAnswer v i e w → w.status ≡ status.Ok
typed_ends_ok v i e w time has forms (prints t bytes h p u) = ap (λ w. w.status) u
typed_ends_ok v i e w time has forms (refuses f bytes h l u) = absurd (type_or_refusal [] e time.0.0 time.0.1.0 f.path f.rule time.0.1.1 h)
typed_ends_ok v i e w time has forms (limited l n (inl h) u) = absurd (time.1 l n h)
typed_ends_ok v i e w time has forms (limited l n (inr (takes, t, h)) u) = absurd (forms l n takes h)
typed_ends_ok v i e w time has forms (no_value t f at same h n d j u) = absurd (not_without e f at (has same) n j)

pub type_ends_ok : (i : Reading) (e : Term) (w : Response) → IsTypedInTime e → TypedAnswer verb.Type i e w → w.status ≡ status.Ok
type_ends_ok i e w time a = typed_ends_ok verb.Type i e w time (λ h. absurd (true≢false (sym (ap takes_form h)))) (λ l n takes h. true≢false (sym takes)) a

pub form_ends_ok : (v : Verb) (i : Reading) (e : Term) (w : Response) → IsTypedInTime e → IsNormalInTime e → (v ≡ verb.ToJson → HasJson e) → TypedAnswer v i e w → w.status ≡ status.Ok
form_ends_ok v i e w time form has a =
    typed_ends_ok v i e w time has (λ l n takes h. normal_limits e form.0.0 form.0.1 l form.0.2 form.1 n h) a
