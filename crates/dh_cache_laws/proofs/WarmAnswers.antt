-- The answers over a record with honest entries, and over one without entries.
use Rattle.std.specs.Prelude.{◌≡◌, ◌⊎◌, ℕ, suc, ◌≤◌, Bool, true, false, IsTrue, List, [], ◌∷◌, Some, Result, Ok, Err, refl}
use Rattle.std.proofs.Common.{ap, sym, ◌∙◌, arith, subst, inl, inr}
use Rattle.dh_syntax.specs.declared.faults.ParseFault.{ParseFault}
use Rattle.dh_syntax.specs.declared.faults.TypeFault.TheVariants as types
use Rattle.dh_syntax.specs.declared.locations.Key.{Key}
use Rattle.dh_imports.specs.declared.outcomes.Blame.{Blame}
use Rattle.dh_imports.specs.declared.outcomes.Why.{Why}
use Rattle.dh_imports.specs.declared.outcomes.Why.TheVariants as why
use Rattle.dh_command.specs.declared.statuses.Status.TheVariants as status
use Rattle.dh_command.specs.declared.verbs.Verb.{Verb}
use Rattle.dh_command.specs.declared.verbs.Verb.TheVariants as verb
use Rattle.dh_command.specs.Answer as answers
use Rattle.dh_command.specs.Responses as responses
use Rattle.dh_command.specs.Responses.{Response, line, fault}
use Rattle.dh_command.specs.Answer.{Does, ResolvedAnswer, valued, faulty, circular, overfull, ValuedAnswer, itself, frozen, typed, TypedAnswer, prints, refuses, limited, Prints, no_value, its_type, its_form, its_value, its_digest, FaultAnswer, at_fault, IsTyped, digest_line, too_many_keys, cycle_at}
use Rattle.dh_imports.specs.FrozenTexts.{Insertion, Ascend, with_digests, side_by_side, IsFrozenText}
use Rattle.dh_command.specs.Statuses.{why_status}
use Rattle.dh_command.specs.Words.{Word, resolves}
use Rattle.dh_json.proofs.Movable.{json_same}
use Rattle.dh_json.specs.JsonValue.{json}
use Rattle.serde_json.specs.Data.{Data}
use Rattle.serde_json.specs.Written.{compact_text}
use Rattle.dh_command.specs.Words as words
use Rattle.dh_syntax.specs.Expressions.Arity.{IsWellFormed}
use Rattle.dh_syntax.specs.Expressions.Tree.{Term}
use Rattle.dh_imports.specs.Freezing.{digests_behind}
use Rattle.dh_syntax.specs.Bytes.Digests.{digest_of}
use Rattle.dh_imports.specs.Machine.{IsAmong}
use Rattle.dh_imports.specs.Readings.{Reading, HasValue, root_reading}
use Rattle.dh_imports.specs.Records.{Record}
use Rattle.dh_imports.specs.Replay.{RootEnd, ready, bad, looped, too_many}
use Rattle.dh_imports.specs.RootEnds.{AreFew, EndsBy, resolved, overflows}
use Rattle.dh_imports.specs.Walk.{Ask}
use Rattle.dh_syntax.specs.Names.Alpha.{alpha, IsSame}
use Rattle.dh_syntax.specs.Normalising.Named.{names}
use Rattle.dh_syntax.specs.Normalising.Normal.{HasNormalForm}
use Rattle.dh_syntax.specs.Text.Printed.{text_of}
use Rattle.dh_syntax.specs.Text.Spelling.{ParsesTo}
use Rattle.dh_grammar.specs.Parsed.{parsed}
use Rattle.dh_grammar.proofs.Results.Answering as reading
use Rattle.dh_grammar.proofs.Results.Unique.{parsed_is_spellable, offsets_are_unique}
use Rattle.dh_import_laws.proofs.CodeSteps.{typed_not_ill}
use Rattle.dh_laws.proofs.Normalising.NamedAnswers.{same_normal_forms}
use Rattle.dh_laws.proofs.Normalising.RunLimits.{one_normal_form}
use Rattle.dh_typing_laws.proofs.Typing.OneTyping.{one_type}
use Rattle.dh_cache_laws.specs.WarmAnswers.{AreLinesOfSame, AreSameLines, WarmAnswers}
use Rattle.dh_cache_laws.specs.WarmCache.{IsLimit, IsWarm}
use Rattle.dh_cache_laws.proofs.SameCode.{same_infers, same_ill}
use Rattle.dh_cache_laws.proofs.WarmDigests.{warm_digests}
use Rattle.dh_cache_laws.proofs.WarmKeys.{digests-same}
use Rattle.dh_cache_laws.proofs.WarmRoots.{warm_end, ends-ready}

-- ---- frozen texts

from_least : (from : ℕ) (ps : List Insertion) (p : Insertion) → Ascend from ps → IsAmong p ps → from ≤ p.0
from_least from [] p a m = absurd m
from_least from (q ∷ ps) p a (inl e) = subst (λ z. from ≤ z.0) e a.0
from_least from (q ∷ ps) p a (inr m) = let h = from_least (suc q.0) ps p a.1 m in let k = a.0 in omega arith

abbrev AreMembers : List Insertion → List Insertion → Type 0
AreMembers ps qs = (p : Insertion) → IsAmong p ps → IsAmong p qs

heads-one : (p q : Insertion) (ps qs : List Insertion) → Ascend (suc p.0) ps → Ascend (suc q.0) qs → IsAmong p (q ∷ qs) → IsAmong q (p ∷ ps) → p ≡ q
heads-one p q ps qs a b (inl e) n = sym e
heads-one p q ps qs a b (inr m) (inl e) = e
heads-one p q ps qs a b (inr m) (inr n) = let h = from_least (suc q.0) qs p b m in let k = from_least (suc p.0) ps q a n in absurd (omega arith)

tails-members : (p q : Insertion) (ps qs : List Insertion) → p ≡ q → Ascend (suc p.0) ps → AreMembers (p ∷ ps) (q ∷ qs) → AreMembers ps qs
tails-members p q ps qs e a f x m = go (f x (inr m))
  where
    go : IsAmong x (q ∷ qs) → IsAmong x qs
    go (inl i) = let h = subst (λ z. suc z.0 ≤ x.0) e (from_least (suc p.0) ps x a m) in let k = subst (λ z. suc z.0 ≤ x.0) i h in absurd (omega arith)
    go (inr n) = n

one_list : (from to : ℕ) (ps qs : List Insertion) → Ascend from ps → Ascend to qs → AreMembers ps qs → AreMembers qs ps → ps ≡ qs
one_list from to [] [] a b f g = refl
one_list from to [] (q ∷ qs) a b f g = absurd (g q (inl refl))
one_list from to (p ∷ ps) [] a b f g = absurd (f p (inl refl))
one_list from to (p ∷ ps) (q ∷ qs) a b f g =
    let e = heads-one p q ps qs a.1 b.1 (f p (inl refl)) (g q (inl refl)) in
    let t = one_list (suc p.0) (suc q.0) ps qs a.1 b.1 (tails-members p q ps qs e a.1 f) (tails-members q p qs ps (sym e) b.1 g) in
    cc

frozen-same : (text : List ℕ) (root : Term) (ask more : Ask) (a b : List ℕ) → digests_behind ask true root ≡ digests_behind more true root
    → IsFrozenText text root ask a → IsFrozenText text root more b → a ≡ b
frozen-same text root ask more a b h f g =
    let offsets = offsets_are_unique text root root f.offsets g.offsets f.spells g.spells in
    let same : side_by_side f.offsets (digests_behind ask true root) ≡ side_by_side g.offsets (digests_behind more true root) =
    ap (λ o. side_by_side o (digests_behind ask true root)) offsets ∙ ap (side_by_side g.offsets) h in
    f.bytes_are
    ∙ ap (with_digests 0 text) (one_list 0 0 f.insertions g.insertions f.ascend g.ascend
    (λ p m. (g.members p).1 (subst (IsAmong (p.0, Some p.1)) same ((f.members p).0 m)))
    (λ p m. (f.members p).1 (subst (IsAmong (p.0, Some p.1)) (sym same) ((g.members p).0 m))))
    ∙ sym g.bytes_are

-- ---- statuses

why-no_ok : {A : Type 0} (w : Why) → why_status w ≡ status.Ok → A
why-no_ok (why.Parse f) h = absurd cc
why-no_ok (why.Typing (types.Ill f)) h = absurd cc
why-no_ok (why.Typing types.Wide) h = absurd cc
why-no_ok (why.Typing types.Spent) h = absurd cc
why-no_ok (why.Typing types.Deep) h = absurd cc
why-no_ok (why.Typing types.Memory) h = absurd cc
why-no_ok (why.Norm f) h = absurd cc
why-no_ok why.Absent h = absurd cc
why-no_ok why.Missing h = absurd cc
why-no_ok (why.Broken n) h = absurd cc
why-no_ok why.Https h = absurd cc
why-no_ok why.Failed h = absurd cc
why-no_ok (why.Differs wanted got) h = absurd cc
why-no_ok (why.Insane l) h = absurd cc
why-no_ok (why.Cors l) h = absurd cc
why-no_ok why.Cycle h = absurd cc
why-no_ok why.TooMany h = absurd cc

status-of : (w p : Response) → w ≡ p → w.status ≡ p.status
status-of w p h = ap (λ x. x.status) h

ill-no_ok : {A : Type 0} → status.Ill ≡ status.Ok → A
ill-no_ok h = absurd cc

limit-no_ok : {A : Type 0} → status.Limit ≡ status.Ok → A
limit-no_ok h = absurd cc

text-no_ok : {A : Type 0} → status.Text ≡ status.Ok → A
text-no_ok h = absurd cc

-- ---- what is printed

abbrev PrintsOf : Term → Term → Verb → List ℕ → Type 0
PrintsOf e t verb.Encode a = ⊥
PrintsOf e t verb.Decode a = ⊥
PrintsOf e t verb.Resolve a = ⊥
PrintsOf e t verb.Type a = a ≡ text_of t
PrintsOf e t verb.Normalize a = (f : Term) × HasNormalForm names e f × (a ≡ text_of f)
PrintsOf e t verb.Hash a = (f : Term) × HasNormalForm names e f × (a ≡ digest_line (digest_of f))
PrintsOf e t verb.ToJson a = (f : Term) × (d : Data) × HasNormalForm names e f × (json f ≡ Ok d) × (a ≡ compact_text d)
PrintsOf e t verb.Freeze a = ⊥
PrintsOf e t verb.Steps a = ⊥
PrintsOf e t verb.Gen a = ⊥
PrintsOf e t verb.Explain a = ⊥
PrintsOf e t verb.Help a = ⊥
PrintsOf e t verb.Version a = ⊥
PrintsOf e t verb.Batch a = ⊥

prints-of : (e t : Term) (v : Verb) (a : List ℕ) → Prints e t v a → PrintsOf e t v a
prints-of e t _ _ (its_type h) = refl
prints-of e t _ _ (its_form f n h) = (f, n, refl)
prints-of e t _ _ (its_value f d n h j) = (f, d, n, j, refl)
prints-of e t _ _ (its_digest f n h) = (f, n, refl)

forms-same : (e d f g : Term) → IsSame e d → HasNormalForm names e f → HasNormalForm names d g → IsSame f g
forms-same e d f g s n m = let (h, k, q) = same_normal_forms e d f s n in q ∙ ap (λ z. alpha z) (one_normal_form names d h g k m)

lines : (a b : List ℕ) (t u : Term) → IsSame t u → a ≡ text_of t → b ≡ text_of u → AreLinesOfSame (line a) (line b)
lines a b t u s p q = record { first = t; second = u; same = s; first_is = ap line p; second_is = ap line q }

ok_values : (x y : Data) → ◌≡◌ {A = Result Data (List ℕ)} (Ok x) (Ok y) → x ≡ y
ok_values x y h = cc

prints-same : (v : Verb) (e d t u : Term) (a b : List ℕ) → IsSame e d → IsSame t u → PrintsOf e t v a → PrintsOf d u v b → AreSameLines v (line a) (line b)
prints-same verb.Type e d t u a b s q h k = lines a b t u q h k
prints-same verb.Normalize e d t u a b s q (f, n, p) (g, m, o) = lines a b f g (forms-same e d f g s n m) p o
prints-same verb.Hash e d t u a b s q (f, n, p) (g, m, o) =
    ap line (p ∙ ap digest_line (digests-same f g (forms-same e d f g s n m)) ∙ sym o)
prints-same verb.ToJson e d t u a b s q (f, x, n, i, p) (g, y, m, j, o) =
    ap line (p ∙ ap compact_text (ok_values x y (sym i ∙ json_same f g (forms-same e d f g s n m) ∙ j)) ∙ sym o)
prints-same verb.Encode e d t u a b s q h k = absurd h
prints-same verb.Decode e d t u a b s q h k = absurd h
prints-same verb.Resolve e d t u a b s q h k = absurd h
prints-same verb.Freeze e d t u a b s q h k = absurd h
prints-same verb.Steps e d t u a b s q h k = absurd h
prints-same verb.Gen e d t u a b s q h k = absurd h
prints-same verb.Explain e d t u a b s q h k = absurd h
prints-same verb.Help e d t u a b s q h k = absurd h
prints-same verb.Version e d t u a b s q h k = absurd h
prints-same verb.Batch e d t u a b s q h k = absurd h

abbrev has_value : Result Data (List ℕ) → Bool
has_value (Ok d) = true
has_value (Err place) = false

-- what has a JSON value under one name of its binders has one under each
json-clash : (e d f g : Term) (x : Data) (at : List ℕ) → IsSame e d → HasNormalForm names e f → json f ≡ Ok x → HasNormalForm names d g → json g ≡ Err at → ⊥
json-clash e d f g x at s n i m j = absurd (true-false (ap has_value (sym i ∙ json_same f g (forms-same e d f g s n m) ∙ j)))
  where
    true-false : true ≡ false → ⊥
    true-false h = cc

json-as : (e t : Term) (v : Verb) (a : List ℕ) → v ≡ verb.ToJson → PrintsOf e t v a → PrintsOf e t verb.ToJson a
json-as e t v a is h = subst (λ v. PrintsOf e t v a) is h

json-not_without : (v : Verb) (e d g : Term) (at : List ℕ) (t : Term) (a : List ℕ) → IsSame e d → v ≡ verb.ToJson → Prints e t v a → HasNormalForm names d g → json g ≡ Err at → ⊥
json-not_without v e d g at t a s is x m j = let (f, y, n, i, p) = json-as e t v a is (prints-of e t v a x) in json-clash e d f g y at s n i m j

json-no_ok : {A : Type 0} → status.NoJson ≡ status.Ok → A
json-no_ok h = absurd cc

-- ---- answers

abbrev Warmly : Verb → Response → Response → Type 0
Warmly v p w = (w.status ≡ status.Ok) × (w.err ≡ []) × AreSameLines v p.out w.out

answered : (v : Verb) (p w : Response) (a b : List ℕ) → p ≡ responses.answer a → w ≡ responses.answer b → AreSameLines v a b → Warmly v p w
answered v p w a b h k s =
    (status-of w (responses.answer b) k, ap (λ x. x.err) k, subst (λ z. AreSameLines v z w.out) (sym (ap (λ x. x.out) h)) (subst (λ z. AreSameLines v a z) (sym (ap (λ x. x.out) k)) s))

typed-same : (v : Verb) (i j : Reading) (e d : Term) (p w : Response) → IsSame e d → p.status ≡ status.Ok → ¬ (w.status ≡ status.Limit) → TypedAnswer v i e p → TypedAnswer v j d w → Warmly v p w
typed-same v i j e d p w s ok free (prints t a (n, h) x q) (prints u b (m, k) y o) =
    let (z, g, r) = same_infers n e d t 0 s h in
    let one = one_type [] d z u n m g k in
    answered v p w (line a) (line b) q o (prints-same v e d t u a b s (r ∙ ap (λ c. alpha c) one.0) (prints-of e t v a x) (prints-of d u v b y))
typed-same v i j e d p w s ok free (prints t a (n, h) x q) (refuses f b k l o) = absurd (typed_not_ill e f.path f.rule (n, t, 0, h) (same_ill d e f.path f.rule (sym s) k))
typed-same v i j e d p w s ok free (prints t a (n, h) x q) (limited l m k o) = absurd (free (status-of w _ o))
typed-same v i j e d p w s ok free (prints t a (n, h) x q) (no_value u f at is m k l b o) =
    absurd (json-not_without v e d f at t a s is x k b)
typed-same v i j e d p w s ok free (no_value t f at is h k x b o) g = json-no_ok (sym (status-of p _ o) ∙ ok)
typed-same v i j e d p w s ok free (refuses f b k l o) g = ill-no_ok (sym (status-of p _ o) ∙ ok)
typed-same v i j e d p w s ok free (limited l m k o) g = limit-no_ok (sym (status-of p _ o) ∙ ok)

not-both : {A : Type 0} (v : Verb) (u : Verb) → v ≡ u → IsTrue (words.types v) → words.types u ≡ false → A
not-both v u p t f = false_true (sym f ∙ sym (ap words.types p) ∙ t)
  where
    false_true : {A : Type 0} → false ≡ true → A
    false_true h = cc

resolve-freeze : {A : Type 0} (v : Verb) → v ≡ verb.Resolve → v ≡ verb.Freeze → A
resolve-freeze v p q = absurd (apart (sym p ∙ q))
  where
    apart : verb.Resolve ≡ verb.Freeze → ⊥
    apart h = cc

valued-same : (v : Verb) (text : List ℕ) (root : Term) (plain_ask ask : Ask) (e d : Term) (p w : Response) → IsSame e d → digests_behind plain_ask true root ≡ digests_behind ask true root
    → p.status ≡ status.Ok → ¬ (w.status ≡ status.Limit) → ValuedAnswer v (root_reading text root plain_ask) e p → ValuedAnswer v (root_reading text root ask) d w → Warmly v p w
valued-same v text root pa ask e d p w s h ok free (itself x q) (itself y o) =
    answered v p w _ _ q o (subst (λ z. AreSameLines z (line (text_of e)) (line (text_of d))) (sym x) (lines (text_of e) (text_of d) e d s refl refl))
valued-same v text root pa ask e d p w s h ok free (frozen a x f q) (frozen b y g o) =
    answered v p w a b q o (subst (λ z. AreSameLines z a b) (sym x) (frozen-same text root pa ask a b h f g))
valued-same v text root pa ask e d p w s h ok free (typed x f) (typed y g) = typed-same v _ _ e d p w s ok free f g
valued-same v text root pa ask e d p w s h ok free (itself x q) (frozen b y g o) = resolve-freeze v x y
valued-same v text root pa ask e d p w s h ok free (frozen a x f q) (itself y o) = resolve-freeze v y x
valued-same v text root pa ask e d p w s h ok free (itself x q) (typed y g) = not-both v verb.Resolve x y refl
valued-same v text root pa ask e d p w s h ok free (frozen a x f q) (typed y g) = not-both v verb.Freeze x y refl
valued-same v text root pa ask e d p w s h ok free (typed x f) (itself y o) = not-both v verb.Resolve y x refl
valued-same v text root pa ask e d p w s h ok free (typed x f) (frozen b y g o) = not-both v verb.Freeze y x refl

-- ---- the root

-- what the answer without the cache rests on
pub record PlainAnswer (v : Verb) (text : List ℕ) (plain : Record) (p : Response) : Type 0 where
  pub root : Term
  pub parses : ParsesTo text (Ok root)
  pub value : Term
  pub ask : Ask
  pub ends : EndsBy plain root (ready value)
  pub valued : HasValue plain (root_reading text root ask) value
  pub answer : ValuedAnswer v (root_reading text root ask) value p

fault-no_ok : {A : Type 0} (r : Record) (b : Blame) (p : Response) → p.status ≡ status.Ok → FaultAnswer r b p → A
fault-no_ok r b p ok (at_fault bytes l q) = why-no_ok b.why (sym (status-of p _ q) ∙ ok)

unless-resolved : {A : Type 0} (v u : Verb) → IsTrue (resolves v) → v ≡ u → resolves u ≡ false → A
unless-resolved v u t p f = false_true (sym f ∙ sym (ap resolves p) ∙ t)
  where
    false_true : {A : Type 0} → false ≡ true → A
    false_true h = cc

plain-answer_of : (v : Verb) (text : List ℕ) (plain : Record) (p : Response) (root : Term) → ParsesTo text (Ok root) → p.status ≡ status.Ok → ResolvedAnswer v text root plain p → PlainAnswer v text plain p
plain-answer_of v text plain p root h ok (valued e ask ends has answer) =
    record { root = root; parses = h; value = e; ask = ask; ends = ends; valued = has; answer = answer }
plain-answer_of v text plain p root h ok (faulty b ends f) = fault-no_ok plain b p ok f
plain-answer_of v text plain p root h ok (circular j ends f) = fault-no_ok plain (cycle_at j) p ok f
plain-answer_of v text plain p root h ok (overfull ends f) = fault-no_ok plain too_many_keys p ok f

pub plain-answer : (v : Verb) (ops : List Word) (text : List ℕ) (plain : Record) (p : Response) → IsTrue (resolves v) → p.status ≡ status.Ok → Does v ops text plain p → PlainAnswer v text plain p
plain-answer v ops text plain p t ok (answers.encodes e h k q) = unless-resolved v verb.Encode t h refl
plain-answer v ops text plain p t ok (answers.decodes e h k l q) = unless-resolved v verb.Decode t h refl
plain-answer v ops text plain p t ok (answers.decodes_none h k q) = unless-resolved v verb.Decode t h refl
plain-answer v ops text plain p t ok (answers.spells root h k a) = plain-answer_of v text plain p root k ok a
plain-answer v ops text plain p t ok (answers.spells_none f h k q) = text-no_ok (sym (status-of p _ q) ∙ ok)
plain-answer v ops text plain p t ok (answers.takes_steps places s h n x u) = unless-resolved v verb.Steps t h refl
plain-answer v ops text plain p t ok (answers.explains told h n q) = unless-resolved v verb.Explain t h refl
plain-answer v ops text plain p t ok (answers.helps h q) = unless-resolved v verb.Help t h refl
plain-answer v ops text plain p t ok (answers.tells_version h q) = unless-resolved v verb.Version t h refl

formed-root : (text : List ℕ) (root : Term) → ParsesTo text (Ok root) → IsWellFormed root
formed-root text root h = (parsed_is_spellable text root (reading.parses_once text (parsed text) (Ok root) (reading.parses text) h)).0

few-of : (r : Record) (root e : Term) (end : RootEnd) → end ≡ ready e → EndsBy r root end → AreFew r root
few-of r root e end p (resolved w few h g) = few
few-of r root e _ p (overflows h) = absurd cc

module _ (v : Verb) (text : List ℕ) (r plain : Record) (w p : Response) (a : PlainAnswer v text plain p) (warm : IsWarm r a.root plain) (ok : p.status ≡ status.Ok) (free : ¬ (w.status ≡ status.Limit)) where
  abbrev root : Term
  root = a.root

  few-or : {A : Type 0} (end : RootEnd) → EndsBy r root end → (AreFew r root → A) → (end ≡ too_many → A) → A
  few-or end (resolved w' few h g) f k = f few
  few-or _ (overflows h) f k = k refl

  bad-ready : {A : Type 0} (b : Blame) (e : Term) → bad b ≡ ready e → A
  bad-ready b e h = absurd cc

  looped-ready : {A : Type 0} (j : Key) (e : Term) → looped j ≡ ready e → A
  looped-ready j e h = absurd cc

  bad-many : {A : Type 0} (b : Blame) → bad b ≡ too_many → A
  bad-many b h = absurd cc

  looped-many : {A : Type 0} (j : Key) → looped j ≡ too_many → A
  looped-many j h = absurd cc

  ready-equal : (e d : Term) → ready e ≡ ready d → e ≡ d
  ready-equal e d h = cc

  limit-free : {A : Type 0} (b : Blame) → IsLimit b → FaultAnswer r b w → A
  limit-free b h (at_fault bytes l q) = absurd (free (status-of w _ q ∙ h))

  bad-equal : (b c : Blame) → bad b ≡ bad c → b ≡ c
  bad-equal b c h = cc

  looped-bad : {A : Type 0} (j : Key) (b : Blame) → looped j ≡ bad b → A
  looped-bad j b h = absurd cc

  ready-bad : {A : Type 0} (e : Term) (b : Blame) → ready e ≡ bad b → A
  ready-bad e b h = absurd cc

  abbrev Ends : RootEnd → Type 0
  Ends end = ((u : Term) × (end ≡ ready u) × IsSame a.value u) ⊎ ((b : Blame) × (end ≡ bad b) × IsLimit b)

  ends-as : (end : RootEnd) → EndsBy r root end → AreFew r root → Ends end
  ends-as end h few = warm_end r plain root a.value end warm few a.ends h

  bad-free : {A : Type 0} (b : Blame) → FaultAnswer r b w → Ends (bad b) → A
  bad-free b f (inl (u, p, s)) = bad-ready b u p
  bad-free b f (inr (c, p, h)) = limit-free b (subst IsLimit (sym (bad-equal b c p)) h) f

  looped-free : {A : Type 0} (j : Key) → Ends (looped j) → A
  looped-free j (inl (u, p, s)) = looped-ready j u p
  looped-free j (inr (c, p, h)) = looped-bad j c p

  ready-same : (e : Term) → Ends (ready e) → IsSame a.value e
  ready-same e (inl (u, p, s)) = s ∙ ap (λ z. alpha z) (sym (ready-equal e u p))
  ready-same e (inr (c, p, h)) = ready-bad e c p

  resolved-same : ResolvedAnswer v text root r w → Warmly v p w
  resolved-same (valued e ask ends has answer) =
      let same = ready-same e (ends-as (ready e) ends (few-of r root e (ready e) refl ends)) in
      valued-same v text root a.ask ask a.value e p w same
      (warm_digests r plain root a.value ask a.ask warm (formed-root text root a.parses) (ends-ready plain root a.value a.ends) e (ends-ready r root e ends)
      has.asks a.valued.asks a.value e a.valued.ready has.ready) ok free a.answer answer
  resolved-same (faulty b ends f) = few-or (bad b) ends (λ few. bad-free b f (ends-as (bad b) ends few)) (λ h. bad-many b h)
  resolved-same (circular j ends f) = few-or (looped j) ends (λ few. looped-free j (ends-as (looped j) ends few)) (λ h. looped-many j h)
  resolved-same (overfull ends f) = limit-free too_many_keys refl f

abbrev expression_of : Term → Result Term ParseFault → Term
expression_of d (Ok e) = e
expression_of d (Err f) = d

abbrev IsSpelled : Result Term ParseFault → Type 0
IsSpelled (Ok e) = Unit {0}
IsSpelled (Err f) = ⊥

ok-err : {A : Type 0} (x y : Result Term ParseFault) → x ≡ y → IsSpelled x → ¬ IsSpelled y → A
ok-err x y h t f = absurd (f (subst IsSpelled h t))

pub warm_answers : WarmAnswers
warm_answers v ops text r plain w p t warm dp ok dr free =
    let a = plain-answer v ops text plain p t ok dp in
    go a dr
  where
    go : PlainAnswer v text plain p → Does v ops text r w → Warmly v p w
    go a (answers.encodes e h k q) = unless-resolved v verb.Encode t h refl
    go a (answers.decodes e h k l q) = unless-resolved v verb.Decode t h refl
    go a (answers.decodes_none h k q) = unless-resolved v verb.Decode t h refl
    go a (answers.spells root h k x) =
        resolved-same v text r plain w p a (warm a.root a.parses) ok free
        (subst (λ z. ResolvedAnswer v text z r w) (ap (expression_of a.root) (reading.parses_once text (Ok root) (Ok a.root) k a.parses)) x)
    go a (answers.spells_none f h k q) = ok-err (Ok a.root) (Err f) (reading.parses_once text (Ok a.root) (Err f) a.parses k) tt (λ x. x)
    go a (answers.takes_steps places s h n x u) = unless-resolved v verb.Steps t h refl
    go a (answers.explains told h n q) = unless-resolved v verb.Explain t h refl
    go a (answers.helps h q) = unless-resolved v verb.Help t h refl
    go a (answers.tells_version h q) = unless-resolved v verb.Version t h refl
