-- What a rule of this group answers, before the type that it makes is made.
use Rattle.std.specs.Prelude.{◌<◌, ℕ, [], ◌∷◌}
use Rattle.dh_syntax.specs.Expressions.Forms as form
use Rattle.dh_syntax.specs.Names.Nameless.{Core}
use Rattle.dh_types.specs.Following.{Course, Takes, Forms, Refuses, WantsNormal, WantsUniverse}
use Rattle.dh_infer_ops.specs.declared.drafts.Draft.{Draft}
use Rattle.dh_infer_ops.specs.declared.drafts.Draft.TheVariants as drafts

-- what the answer is, where a number stands for `f` of it
abbrev pub draft_of : (ℕ → Core) → Draft → Course Core
draft_of f (drafts.Takes c) = Takes (f c)
draft_of f (drafts.TakesConstant b) = Takes (form.builtin b)
draft_of f (drafts.FormsApplied b c) = Forms (form.call b (f c ∷ []))
draft_of f (drafts.Refuses rule) = Refuses rule
draft_of f (drafts.WantsNormal k) = WantsNormal k
draft_of f (drafts.WantsUniverse k) = WantsUniverse k

-- the code that the answer names is one of the first n
abbrev pub IsDraftBelow : ℕ → Draft → Type 0
IsDraftBelow n (drafts.Takes c) = c < n
IsDraftBelow n (drafts.FormsApplied b c) = c < n
IsDraftBelow n _ = Unit {0}
