-- Whether an item is that of a key which is due.
use Rattle.std.specs.Prelude.{◌≡◌, ℕ, Bool, true, false, not, ◌&&◌, List, Option, Some, Result, Ok, refl}
use Rattle.std.proofs.Common.{ap, sym, ◌∙◌}
use Rattle.dh_syntax.specs.declared.expressions.Expr.{Expr}
use Rattle.dh_syntax.specs.declared.faults.ParseFault.{ParseFault}
use Rattle.dh_syntax.specs.declared.locations.Key.{Key}
use Rattle.dh_syntax.specs.Expressions.Bridge.{term}
use Rattle.dh_syntax.specs.Expressions.Numbers.{bytes_eq}
use Rattle.dh_syntax.specs.Expressions.SameTree.{option_eq, term_eq}
use Rattle.dh_syntax.specs.Expressions.Tree.{Term}
use Rattle.dh_imports.specs.LastStep as last
use Rattle.dh_imports.specs.Resolver.{Has, of_plan, of_walk, plan_text}
use Rattle.dh_imports.specs.Records as found
use Rattle.dh_imports.specs.Walk.{Ask, walk}
use Rattle.dh_ports.specs.declared.worlds.Found.{Found}
use Rattle.dh_ports.specs.declared.worlds.Got.{Got}
use Rattle.dh_ports.specs.declared.worlds.Got.TheVariants as gots
use Rattle.dh_demand.specs.declared.scans.Scan.{Scan}
use Rattle.dh_record.specs.declared.items.Body.TheVariants as body
use Rattle.dh_record.specs.declared.items.Item.{Item}
use Rattle.dh_record.specs.declared.news.Noted.TheVariants as noteds
use Rattle.dh_record.specs.declared.rows.recorded.Text.{Text}
use Rattle.dh_record.specs.Inside.Equal.{are_due_on_one}
use Rattle.dh_record.specs.Reading.{noted_of}
use Rattle.dh_record.specs.Items.{by_body, stage_of_item}
use Rattle.dh_record.specs.Rows.{noted_by, scanned}

pub code_item : (v : Term) (allow : Option (List ℕ)) (i : Item) (e : Expr) → i.body ≡ body.Code e → are_due_on_one (Has (last.Code v allow)) (stage_of_item i) ≡ (term_eq v (term e) && option_eq bytes_eq allow i.allow)
code_item v allow i e p = ap (λ b. are_due_on_one (Has (last.Code v allow)) (by_body i.allow b)) p

pub not_true : (b : Bool) → not b ≡ true → b ≡ false
not_true true h = cc
not_true false h = refl

pub not_false : (b : Bool) → not b ≡ false → b ≡ true
not_false true h = refl
not_false false h = cc
