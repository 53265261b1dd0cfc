-- Replies of the commands that infer a type.
use Rattle.std.proofs.Common.{◌≡◌, ◌⊎◌, inl, inr, ℕ, ◌≤◌, List, [], true≢false, Option, Some, None, Result, Ok, Err, IfOk, refl, sym, ap, ◌∙◌, subst}
use Rattle.std.specs.Prelude.{IsTrue}
use Rattle.std.specs.declared.alloc.AllocError.{AllocError}
use Rattle.dh_syntax.specs.declared.faults.Ill.{Ill}
use Rattle.dh_syntax.specs.declared.faults.NormFault.{NormFault}
use Rattle.dh_syntax.specs.declared.faults.NormFault.TheVariants as limit
use Rattle.dh_syntax.specs.declared.locations.Digest.{Digest}
use Rattle.dh_syntax.specs.declared.locations.Key.{Key}
use Rattle.dh_command.specs.declared.statuses.Status.TheVariants as status
use Rattle.dh_command.specs.declared.verbs.Verb.{Verb}
use Rattle.dh_command.specs.declared.verbs.Verb.TheVariants as verb
use Rattle.dh_command.specs.Answer.{TypedAnswer, ValuedAnswer, Prints, IsIllLine, IsTyped, IsLimit, prints, refuses, limited, itself, frozen, typed, no_value, its_type, its_form, its_value, its_digest, digest_line}
use Rattle.dh_command.specs.Responses.{Response, answer, fault, line}
use Rattle.dh_syntax.specs.FaultLines.{norm_fault_line}
use Rattle.dh_imports.specs.FrozenTexts.{IsFrozenText}
use Rattle.dh_imports.specs.ImportFaults.{in_item}
use Rattle.dh_command.specs.PlacedFaults.{ill_line_at}
use Rattle.dh_command.specs.Words.{resolves as does_resolve, types, takes_form}
use Rattle.dh_syntax.specs.Expressions.Nesting.{nesting}
use Rattle.dh_syntax.specs.Expressions.Tree.{Term}
use Rattle.dh_syntax.specs.Bytes.Digests.{digest_of}
use Rattle.dh_imports.specs.Readings.{Reading, root_reading}
use Rattle.dh_imports.specs.TextPaths.{text_path}
use Rattle.dh_imports.specs.Walk.{Ask}
use Rattle.dh_syntax.specs.Limits.{most_nesting, whole_purse}
use Rattle.dh_syntax.specs.Normalising.Named.{names}
use Rattle.dh_syntax.specs.Normalising.Normal.{HasNormalForm, IsLicensed}
use Rattle.dh_syntax.specs.Text.Places.{start_of, line_at, column_at}
use Rattle.dh_syntax.specs.Text.Printed.{text_of}
use Rattle.dh_syntax.specs.Text.Spans.{Spans, SpellsAt}
use Rattle.dh_syntax.specs.Text.Spelling.{ParsesTo}
use Rattle.dh_syntax.specs.Typing.NamedTyping.{IsIll, IsTypeLimit}
use Rattle.dh_top.specs.declared.replies.Reply.{Reply}
use Rattle.dh_top.specs.Replies.{written, IsJsonReply, TellsPlace}
use Rattle.dh_json.specs.JsonValue.{json}
use Rattle.serde_json.specs.Data.{Data}
use Rattle.serde_json.specs.Written.{compact_text}

-- the printed type
pub type_printed : (r : Result Reply AllocError) (v : Verb) (e t : Term) → v ≡ verb.Type → IsTyped e t → nesting t ≤ most_nesting
    → IfOk r (λ x. written x ≡ answer (line (text_of t))) → IfOk r (λ x. (i : Reading) → TypedAnswer v i e (written x))
type_printed (Ok x) v e t same h n w = λ i. subst (λ v. TypedAnswer v i e (written x)) (sym same) (prints t (text_of t) h (its_type n) w)
type_printed (Err x) v e t same h n w = tt

-- the printed normal form, its digest, or a limit, whatever the text
pub form_printed : (r : Result Reply AllocError) (e f : Term) → (t : Term) × IsTyped e t → HasNormalForm names e f → nesting f ≤ most_nesting
    → IfOk r (λ x. written x ≡ answer (line (text_of f))) → IfOk r (λ x. (i : Reading) → TypedAnswer verb.Normalize i e (written x))
form_printed (Ok x) e f has h n w = λ i. prints has.0 (text_of f) has.1 (its_form f h n) w
form_printed (Err x) e f has h n w = tt

pub digest_printed : (r : Result Reply AllocError) (e f : Term) (d : Digest) → (t : Term) × IsTyped e t → HasNormalForm names e f → nesting f ≤ most_nesting → d ≡ digest_of f
    → IfOk r (λ x. written x ≡ answer (line (digest_line d))) → IfOk r (λ x. (i : Reading) → TypedAnswer verb.Hash i e (written x))
digest_printed (Ok x) e f d has h n same w =
    λ i. prints has.0 (digest_line (digest_of f)) has.1 (its_digest f h n) (w ∙ ap (λ d. answer (line (digest_line d))) same)
digest_printed (Err x) e f d has h n same w = tt

json_told : (e f : Term) (o : Result Data (List ℕ)) (w : Response) → (t : Term) × IsTyped e t → HasNormalForm names e f → nesting f ≤ most_nesting → json f ≡ o → IsJsonReply o w
    → (i : Reading) → TypedAnswer verb.ToJson i e w
json_told e f (Ok d) w has h n same told i = prints has.0 (compact_text d) has.1 (its_value f d h n same) told
json_told e f (Err place) w has h n same told i = no_value has.0 f place refl has.1 h n same told

-- the JSON text of the normal form, or its first place without a value
pub value_printed : (r : Result Reply AllocError) (e f : Term) → (t : Term) × IsTyped e t → HasNormalForm names e f → nesting f ≤ most_nesting
    → IfOk r (λ x. IsJsonReply (json f) (written x)) → IfOk r (λ x. (i : Reading) → TypedAnswer verb.ToJson i e (written x))
value_printed (Ok x) e f has h n told = json_told e f (json f) (written x) has h n refl told
value_printed (Err x) e f has h n told = tt

pub form_limited : (r : Result Reply AllocError) (v : Verb) (e : Term) (l : NormFault) → IsTrue (takes_form v) → (t : Term) × IsTyped e t → IsLicensed names nesting whole_purse e l
    → IfOk r (λ x. (l ≡ limit.Memory → ⊥) × (written x ≡ fault (norm_fault_line l) status.Limit)) → IfOk r (λ x. (i : Reading) → TypedAnswer v i e (written x))
form_limited (Ok x) v e l takes has h w = λ i. limited l w.0 (inr (takes, has, h)) w.1
form_limited (Err x) v e l takes has h w = tt

pub for_verb : (r : Result Reply AllocError) (v w : Verb) (e : Term) → v ≡ w → IfOk r (λ x. (i : Reading) → TypedAnswer w i e (written x))
    → IfOk r (λ x. (i : Reading) → TypedAnswer v i e (written x))
for_verb (Ok x) v w e same h = λ i. subst (λ v. TypedAnswer v i e (written x)) (sym same) (h i)
for_verb (Err x) v w e same h = tt

pub for_reading : (r : Result Reply AllocError) (v : Verb) (e : Term) (i : Reading) → IfOk r (λ x. (i : Reading) → TypedAnswer v i e (written x)) → IfOk r (λ x. TypedAnswer v i e (written x))
for_reading (Ok x) v e i h = h i
for_reading (Err x) v e i h = tt

pub type_limited : (r : Result Reply AllocError) (v : Verb) (i : Reading) (e : Term) (l : NormFault) → (l ≡ limit.Memory → ⊥) → IsTypeLimit [] whole_purse e l
    → IfOk r (λ x. written x ≡ fault (norm_fault_line l) status.Limit) → IfOk r (λ x. TypedAnswer v i e (written x))
type_limited (Ok x) v i e l n h w = limited l n (inl h) w
type_limited (Err x) v i e l n h w = tt

-- ---- a place without a type

-- the line of a place by its path
pub line_told : (i : Reading) (f : Ill) (path : List ℕ) (w : Response) → path ≡ text_path i.at i.ask i.spelled f.path → TellsPlace i.at i.text i.spelled path f w
    → (bytes : List ℕ) × IsIllLine i f bytes × (w ≡ fault bytes status.Ill)
line_told i f path w same t =
    let bytes = in_item i.at (ill_line_at i.text t.nodes (text_path i.at i.ask i.spelled f.path) f) in
    (bytes, record { nodes = t.nodes; stand = t.stand; line_is = refl }, t.written_is ∙ ap (λ p. fault (in_item i.at (ill_line_at i.text t.nodes p f)) status.Ill) same)

refused_one : (v : Verb) (e : Term) (i : Reading) (f : Ill) (w : Response) → IsIll [] e f.path f.rule → (bytes : List ℕ) × IsIllLine i f bytes × (w ≡ fault bytes status.Ill) → TypedAnswer v i e w
refused_one v e i f w ill (bytes, l, is) = refuses f bytes ill l is

-- in the root
pub refused_in_root : (r : Result Reply AllocError) (v : Verb) (e : Term) (text : List ℕ) (root : Term) (ask : Ask) (f : Ill) (at : Option Key) (path places : List ℕ) → at ≡ None
    → places ≡ f.path → path ≡ text_path None ask root places → ParsesTo text (Ok root) → IsIll [] e f.path f.rule
    → IfOk r (λ x. (d : Term) → ParsesTo text (Ok d) → TellsPlace at text d path f (written x)) → IfOk r (λ x. TypedAnswer v (root_reading text root ask) e (written x))
refused_in_root (Ok x) v e text root ask f at path places none same p spelled ill tells =
    refused_one v e (root_reading text root ask) f (written x) ill
    (line_told (root_reading text root ask) f path (written x) (p ∙ ap (text_path None ask root) same) (subst (λ a. TellsPlace a text root path f (written x)) none (tells root spelled)))
refused_in_root (Err x) v e text root ask f at path places none same p spelled ill tells = tt

-- ---- the root with its values

-- a command that resolves imports, and is neither `resolve` nor `freeze`, infers a type
pub types_of : (v : Verb) → IsTrue (does_resolve v) → (v ≡ verb.Resolve → ⊥) → (v ≡ verb.Freeze → ⊥) → IsTrue (types v)
types_of verb.Encode t n m = absurd (true≢false (sym t))
types_of verb.Decode t n m = absurd (true≢false (sym t))
types_of verb.Resolve t n m = absurd (n refl)
types_of verb.Type t n m = refl
types_of verb.Normalize t n m = refl
types_of verb.Hash t n m = refl
types_of verb.ToJson t n m = refl
types_of verb.Steps t n m = absurd (true≢false (sym t))
types_of verb.Freeze t n m = absurd (m refl)
types_of verb.Gen t n m = absurd (true≢false (sym t))
types_of verb.Explain t n m = absurd (true≢false (sym t))
types_of verb.Help t n m = absurd (true≢false (sym t))
types_of verb.Version t n m = absurd (true≢false (sym t))
types_of verb.Batch t n m = absurd (true≢false (sym t))

pub itself_any : (r : Result Reply AllocError) (v : Verb) (i : Reading) (e : Term) → v ≡ verb.Resolve → IfOk r (λ x. written x ≡ answer (line (text_of e)))
    → IfOk r (λ x. ValuedAnswer v i e (written x))
itself_any (Ok x) v i e same w = itself same w
itself_any (Err x) v i e same w = tt

pub frozen_any : (r : Result Reply AllocError) (v : Verb) (i : Reading) (e : Term) → v ≡ verb.Freeze
    → IfOk r (λ x. (bytes : List ℕ) × IsFrozenText i.text i.spelled i.ask bytes × (written x ≡ answer bytes)) → IfOk r (λ x. ValuedAnswer v i e (written x))
frozen_any (Ok x) v i e same h = frozen h.0 same h.1 h.2
frozen_any (Err x) v i e same h = tt

pub typed_any : (r : Result Reply AllocError) (v : Verb) (i : Reading) (e : Term) → IsTrue (types v) → IfOk r (λ x. TypedAnswer v i e (written x)) → IfOk r (λ x. ValuedAnswer v i e (written x))
typed_any (Ok x) v i e t h = typed t h
typed_any (Err x) v i e t h = tt
