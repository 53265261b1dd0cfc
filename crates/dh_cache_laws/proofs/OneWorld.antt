-- Two runs in one world, where no cache has an entry.
use Rattle.std.specs.Prelude.{◌≡◌, ℕ, IsTrue, List, Some, Ok, Err, Result, refl}
use Rattle.std.proofs.Common.{ap, sym, ◌∙◌, subst}
use Rattle.dh_syntax.specs.declared.faults.ParseFault.{ParseFault}
use Rattle.dh_command.specs.declared.statuses.Status.TheVariants as status
use Rattle.dh_command.specs.declared.verbs.Verb.{Verb}
use Rattle.dh_command.specs.Answer.{Does}
use Rattle.dh_command.specs.Responses.{Response}
use Rattle.dh_command.specs.Words.{Word, resolves}
use Rattle.dh_grammar.proofs.Results.Answering.{parses_once}
use Rattle.dh_imports.specs.Records.{Record}
use Rattle.dh_imports.specs.Resolver.{resolve, ResolvesRoot}
use Rattle.dh_imports.specs.Walk.{Ready, walk}
use Rattle.dh_import_laws.specs.ImportLaws.{IsDecided}
use Rattle.dh_syntax.specs.Expressions.Tree.{Term}
use Rattle.dh_syntax.specs.Text.Spelling.{ParsesTo}
use Rattle.dh_cache_laws.specs.OneWorld.{AreOfOneWorld, IsWithoutEntries, OneWorld}
use Rattle.dh_cache_laws.specs.WarmCache.{IsWarm}
use Rattle.dh_cache_laws.proofs.WarmAnswers.{PlainAnswer, plain-answer, warm_answers}
use Rattle.dh_cache_laws.proofs.WarmRoots.{ends-ready}

abbrev root_or : Term → Result Term ParseFault → Term
root_or d (Ok e) = e
root_or d (Err f) = d

ok-limit : {A : Type 0} → status.Ok ≡ status.Limit → A
ok-limit h = absurd cc

module _ (v : Verb) (text : List ℕ) (r s : Record) (w : Response) (a : PlainAnswer v text r w) (pr : IsWithoutEntries r) (ps : IsWithoutEntries s) (agree : AreOfOneWorld r s) where
  ready-by : ResolvesRoot r a.root (Ready a.value)
  ready-by = ends-ready r a.root a.value a.ends

  warm-by : IsWarm r a.root s
  warm-by = record {
    agree = record { texts = λ l t u h k. agree l u t k h; limits = pr.limits; plain_limits = ps.limits };
    spend = ready-by.0;
    decided = subst IsDecided (sym ready-by.1) tt;
    entries = record { none_good = ps.none_good; same = λ k d bytes e visited frozen good. absurd (pr.none_good d bytes e good) };
  }

  pub warm-at : (root : Term) → ParsesTo text (Ok root) → IsWarm r root s
  warm-at root p = subst (λ z. IsWarm r z s) (ap (root_or root) (parses_once text (Ok a.root) (Ok root) a.parses p)) warm-by

pub one_world : OneWorld
one_world v ops text r s w x t pr ps agree dr okw ds okx =
    let a = plain-answer v ops text r w t okw dr in
    (warm_answers v ops text r s w x t (warm-at v text r s w a pr ps agree) ds okx dr (λ h. ok-limit (sym okw ∙ h))).2
