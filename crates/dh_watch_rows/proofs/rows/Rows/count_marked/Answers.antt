use Rattle.std.proofs.Common.{◌≡◌, ◌<◌, ◌-◌, ℕ, sym, ◌∙◌, subst, arith, length, get_or}
use Rattle.std.proofs.lemmas.List.Elements.{All-get_or}
use Rattle.dh_demand.specs.Results.{ask_of}
use Rattle.dh_watch_laws.specs.VisitCounts.{count_from}
use Rattle.dh_watch_rows.specs.KeptRows.{kept_of}
use Rattle.dh_watch_rows.proofs.VisitedRows.{passes-marked, passes-past}
use Rattle.dh_watch_rows.proofs.rows.Rows.count_marked.Goals as goal

pub passed-preserved-then-is_set : goal.passed-preserved-then-is_set
passed-preserved-then-is_set g c =
    let t = c.args.self.now in
    let ask = ask_of (g.R.Results.rows c.args.results.now) in
    let left = c.passed.left in
    let n = c.index-n.result.now in
    let low : left - 1 < length t.found.items = omega (arith, c.passed.invariant.few, c.passed-test.true) in
    let there : n ≡ get_or t.found.items (left - 1) n = c.index-n.ensures in
    record {
      marks = c.mark_asked.ensures.marks ∙ c.passed.invariant.marks;
      few = omega (arith, c.passed.invariant.few, c.passed-test.true);
      passes =
          λ ks h.
          passes-marked t.keys t.found.items (kept_of t).recorded ask c.requires.good.distinct c.passed.marks c.passed.count (count_from (kept_of t).recorded ask (kept_of t).outcomes ks) left (left - 1) n n
          (omega (arith, c.passed-test.true)) low there
          (subst (λ (x : ℕ). x < length t.keys) (sym there) (All-get_or (λ (x : ℕ). x < length t.keys) t.found.items (left - 1) n low c.requires.good.decided_named))
          (c.passed.invariant.passes ks h) c.mark_asked.new.marks (sym c.is_set.ensures ∙ c.if-is_set.true) c.mark_asked.ensures.mark;
    }

pub passed-preserved : goal.passed-preserved
passed-preserved g c =
    let t = c.args.self.now in
    let ask = ask_of (g.R.Results.rows c.args.results.now) in
    let left = c.passed.left in
    let n = c.index-n.result.now in
    let low : left - 1 < length t.found.items = omega (arith, c.passed.invariant.few, c.passed-test.true) in
    let there : n ≡ get_or t.found.items (left - 1) n = c.index-n.ensures in
    record {
      marks = c.passed.invariant.marks;
      few = omega (arith, c.passed.invariant.few, c.passed-test.true);
      passes =
          λ ks h.
          passes-past t.keys t.found.items (kept_of t).recorded ask c.requires.good.distinct c.passed.marks c.passed.count (count_from (kept_of t).recorded ask (kept_of t).outcomes ks) left (left - 1) n n
          (omega (arith, c.passed-test.true)) low there
          (subst (λ (x : ℕ). x < length t.keys) (sym there) (All-get_or (λ (x : ℕ). x < length t.keys) t.found.items (left - 1) n low c.requires.good.decided_named))
          (c.passed.invariant.passes ks h) (sym c.is_set.ensures ∙ c.if-is_set.false);
    }
