-- What a rule of this group answers, before the type that it makes is made.
use Rattle.std.specs.Prelude.{◌≡◌, ◌<◌, ℕ, map, length, IsTrue}
use Rattle.dh_syntax.specs.declared.expressions.Op.TheVariants as ops
use Rattle.dh_syntax.specs.Expressions.Forms as form
use Rattle.dh_syntax.specs.Expressions.Order.{ascending}
use Rattle.dh_syntax.specs.Expressions.Tree.{Node}
use Rattle.dh_syntax.specs.Names.Nameless.{Core}
use Rattle.dh_syntax.specs.Typing.NamelessTyping.{core_scopes}
use Rattle.dh_syntax.specs.Typing.TypeRulesUnions.{map_type}
use Rattle.dh_store.specs.Cells.{AreBelow}
use Rattle.dh_types.specs.Following.{Course, Takes, Forms, Refuses, WantsNormal, WantsUniverse}
use Rattle.dh_typerows.specs.declared.drafts.Draft.{Draft}
use Rattle.dh_typerows.specs.declared.drafts.Draft.TheVariants as drafts

-- what the answer is, where a number stands for `f` of it
abbrev pub draft_of : (ℕ → Core) → Draft → Course Core
draft_of f (drafts.Takes c) = Takes (f c)
draft_of f (drafts.TakesConstant b) = Takes (form.builtin b)
draft_of f (drafts.FormsRecord xs cs) = Forms (Node (ops.RecordType xs) (form.plain_row (map f cs)))
draft_of f (drafts.FormsFunction x t u) = Forms (form.forall x (f t) (f u))
draft_of f (drafts.FormsMap c) = Forms (map_type core_scopes (f c))
draft_of f (drafts.Refuses rule) = Refuses rule
draft_of f (drafts.WantsNormal k) = WantsNormal k
draft_of f (drafts.WantsUniverse k) = WantsUniverse k

-- the codes that the answer names are among the first n, and a record type that it forms has as many types as labels, which ascend
abbrev pub IsDraftBelow : ℕ → Draft → Type 0
IsDraftBelow n (drafts.Takes c) = c < n
IsDraftBelow n (drafts.FormsRecord xs cs) = AreBelow n cs × IsTrue (ascending xs) × (length xs ≡ length cs)
IsDraftBelow n (drafts.FormsFunction x t u) = (t < n) × (u < n)
IsDraftBelow n (drafts.FormsMap c) = c < n
IsDraftBelow n _ = Unit {0}
