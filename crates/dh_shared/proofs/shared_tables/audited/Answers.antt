use Rattle.std.proofs.Common.{◌≡◌, arith, ap, sym, ◌∙◌, subst, ℕ, ◌<◌, ◌≤◌}
use Rattle.dh_shared.specs.Held.{Held}
use Rattle.dh_shared.proofs.Counts.{parted}
use Rattle.dh_shared.proofs.shared_tables.audited.Goals as goal

pub returns : goal.returns
returns g c =
    let same : record c.args.all { parts = 0 } ≡ c.args.locked.books = c.audit.ensures.same in
    let l = c.args.locked in
    let claims = l.claims_in ∙ ap (λ (h : Held). h.claims) (sym same) in
    let kept = l.kept_in ∙ ap (λ (h : Held). h.kept) (sym same) in
    let releases = l.releases_in ∙ ap (λ (h : Held). h.releases) (sym same) in
    let lates = l.lates_in ∙ ap (λ (h : Held). h.lates) (sym same) in
    let overs = ap (λ (h : Held). h.overs) same in
    let counted : l.books.releases ≤ l.books.returns = l.returns_in in
    record {
      root = l.root_in;
      closes = record {
        claims = claims;
        kept = kept;
        releases = releases;
        lates = lates;
        fetches = l.fetches_in ∙ ap (λ (h : Held). h.fetches) (sym same);
        failed = l.failed_in ∙ ap (λ (h : Held). h.failed) (sym same);
        overs = λ some. l.over_in (let P : ℕ → Type 0 = λ n. 0 < n in subst P overs some);
        returns = omega (arith, counted, ap (λ (h : Held). h.releases) same, ap (λ (h : Held). h.returns) same);
        steps = omega (arith, parted l.table.history, claims, kept, releases, lates);
      };
    }
