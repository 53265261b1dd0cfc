use Rattle.std.proofs.Common.{sym, ◌∙◌, ap, subst, ◌≤◌, ◌-◌, ◌++◌, length, take}
use Rattle.dh_syntax.specs.Imports.Locations.{Comps}
use Rattle.dh_paths.specs.Inside.Paths.{route}
use Rattle.dh_paths.proofs.Routes.{folder-route}
use Rattle.dh_paths.proofs.chains.folder.Goals as goal

pub returns-in_ok-push_route-in-len1-up : goal.returns-in_ok-push_route-in-len1-up
returns-in_ok-push_route-in-len1-up c =
    let front = folder-route c.args.up c.args.comps.now (subst (λ l. 1 ≤ length l) c.as_slice.ensures c.in-len1-up.len_at_least) in
    let slice : Comps = c.as_slice.result.now in
    c.in_ok-push_route-in-len1-up.ensures ∙ ap (λ p. p ++ route c.args.up (take (length slice - 1) slice)) c.new-path.ensures
    ∙ ap (λ l. route c.args.up (take (length l - 1) l)) c.as_slice.ensures ∙ sym front
