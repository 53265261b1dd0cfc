-- What an `infer` with kept types over a machine may answer, in the words of `NamedTyping`.
use Rattle.std.specs.Prelude.{◌≡◌, ℕ, suc, ◌+◌, List, option_map, refl, ⊤}
use Rattle.std.proofs.Common.{inl, inr, ap, ◌∙◌, subst as along}
use Rattle.dh_syntax.specs.declared.faults.TypeFault.TheVariants as fault
use Rattle.dh_syntax.specs.Typing.BuiltinTypes.{type_of}
use Rattle.dh_syntax.specs.Normalising.Heads.{Answer}
use Rattle.dh_syntax.specs.Typing.Inference.{Judgment, Has, Ill, IsWide, IsDeep, IsOver, IsOverAside, IsShallow, judged, MeetsNormal}
use Rattle.dh_syntax.specs.Limits.{purse_aside}
use Rattle.dh_syntax.specs.Normalising.Named.{names}
use Rattle.dh_syntax.specs.Typing.NamedTyping as named
use Rattle.dh_syntax.specs.Typing.NamedTyping.{Infers, IsIll, IsTypeFault}
use Rattle.dh_syntax.specs.Names.Nameless.{Ref, core_below, to_core, Core}
use Rattle.dh_syntax.specs.Normalising.NamelessRuns.{cores}
use Rattle.dh_syntax.specs.Typing.NamelessTyping.{core_scopes}
use Rattle.dh_syntax.specs.Expressions.Nesting.{nesting}
use Rattle.dh_syntax.specs.Normalising.Normal.{IsWideLicensed}
use Rattle.dh_syntax.specs.Typing.Scopes.{Context}
use Rattle.dh_syntax.specs.Expressions.Tree.{Name, Var, Term}
use Rattle.dh_syntax.specs.Typing.TypeRules.{rule_number}
use Rattle.dh_syntax.specs.Typing.Typing.{typing}
use Rattle.dh_laws.proofs.Normalising.RunsAlike.{plus}
use Rattle.dh_typing_laws.specs.KeptTypes.{Coded, embed, meaning, Sortless, StandsFor, kept_typing, Kept, IsKept, NormalLag, TypingLag}
use Rattle.dh_typing_laws.proofs.Typing.TypingLaws.{named_type, named_refusal, named_over, named_spent_aside, named_limit, named_wide}
use Rattle.dh_typing_laws.proofs.Typing.TypingsKeptAnswers.{answers, kept_infer}
use Rattle.dh_typing_laws.specs.NamelessTyping.{names_of, cored}
use Rattle.dh_typing_laws.proofs.Typing.TypingsNamed.{cored-itself}

-- `deep` is what licenses `Deep` for an expression, and `deep'` for a nameless form
module _ (deep' : Core → Type 0) (deep : Term → Type 0) (deeper : (zs : List Name) (d : Core) (f : Term) → d ≡ core_below zs f → deep' d → deep f)
    (machine : ℕ → Coded Name → Answer (Coded Name))
    (h : (s : Unit {0}) (units : ℕ) (d : Coded Name) (e : Core) → StandsFor s d e → NormalLag cores (IsWideLicensed cores nesting) deep' embed units e (machine units d)) where
  -- what may be answered for the typing of e in the context with so many units, where `deep` licenses `Deep`
  abbrev pub MayAnswerBy : Context Var Name → ℕ → Term → Judgment (Coded Name) → Type 0
  MayAnswerBy c units e (Has t left) = (v : Term) × (t ≡ embed (core_below (names_of c) v)) × (extra : ℕ) × Infers c (units + extra) e (Has v left)
  MayAnswerBy c units e (Ill path rule) = IsIll c e path (rule_number rule)
  MayAnswerBy c units e IsWide = IsTypeFault c units e fault.Wide
  MayAnswerBy c units e IsDeep = (depth : ℕ) × MeetsNormal names deep (typing named.scopes depth c e)
  MayAnswerBy c units e IsOver = IsTypeFault c units e fault.Spent
  MayAnswerBy c units e IsOverAside = IsTypeFault c units e fault.Spent
  MayAnswerBy c units e IsShallow = ⊤

  may-answer : (depth : ℕ) (c : Context Var Name) (units : ℕ) (e : Term) (j : Judgment (Coded Name))
      → TypingLag cores (IsWideLicensed cores nesting) deep' purse_aside embed units (typing core_scopes depth (cored (core_below (names_of c)) c) (core_below (names_of c) e)) j → MayAnswerBy c units e j
  may-answer depth c units e (Has t left) (w, q, extra, r) =
      let (v, a, b) = named_type depth (names_of c) (cored (core_below (names_of c)) c) c e (cored-itself c) (units + extra) left w r in
      (v, q ∙ ap embed a, extra, (depth, b))
  may-answer depth c units e (Ill path rule) r =
      let (n, b) = named_refusal depth (names_of c) (cored (core_below (names_of c)) c) c e (cored-itself c) path rule r in (rule, n, (depth, b), refl)
  may-answer depth c units e IsWide r = (depth, named_wide depth (names_of c) (cored (core_below (names_of c)) c) c e (cored-itself c) r)
  may-answer depth c units e IsDeep r = (depth, named_limit depth (names_of c) (cored (core_below (names_of c)) c) c e (cored-itself c) deep' deep deeper r)
  may-answer depth c units e IsOver r = (depth, inl (named_over depth (names_of c) (cored (core_below (names_of c)) c) c e (cored-itself c) units r))
  may-answer depth c units e IsOverAside r = (depth, inr (named_spent_aside depth (names_of c) (cored (core_below (names_of c)) c) c e (cored-itself c) r))
  may-answer depth c units e IsShallow r = tt

  module _ (more : ℕ) (kept : Context Ref Name → Core → Kept Core)
      (valid : (depth : ℕ) (c : Context Ref Name) (v : Core) → IsKept cores (typing core_scopes (suc (plus depth more)) c v) (kept c v)) where
    -- KEPT TYPES: where d stands for e, its values put in
    pub infer_with_kept : (depth : ℕ) (c : Context Var Name) (e : Term) (d : Coded Name) → Sortless d → meaning d ≡ core_below (names_of c) e → (units : ℕ)
        → MayAnswerBy c units e
        (judged machine purse_aside units
        (kept_typing (λ b. option_map to_core (type_of b)) (λ x. x)
        (answers (λ b. option_map to_core (type_of b)) (λ x. x) cores (IsWideLicensed cores nesting) deep' purse_aside machine (λ s u g f p. h s u g f p) more kept valid) depth (cored (core_below (names_of c)) c) d))
    infer_with_kept depth c e d n m units =
        may-answer (plus depth more) c units e _
        (along (λ z. TypingLag cores (IsWideLicensed cores nesting) deep' purse_aside embed units (typing core_scopes (plus depth more) (cored (core_below (names_of c)) c) z)
        (judged machine purse_aside units
        (kept_typing (λ b. option_map to_core (type_of b)) (λ x. x)
        (answers (λ b. option_map to_core (type_of b)) (λ x. x) cores (IsWideLicensed cores nesting) deep' purse_aside machine (λ s u g f p. h s u g f p) more kept valid) depth (cored (core_below (names_of c)) c) d))) m
        (kept_infer (λ b. option_map to_core (type_of b)) (λ x. x) cores (IsWideLicensed cores nesting) deep' purse_aside machine (λ s u g f p. h s u g f p) more kept valid depth (cored (core_below (names_of c)) c) d n units))
