use Rattle.std.proofs.Common.{◌≡◌, sym, ◌∙◌, ap, arith, [], ◌&&◌, not, false, refl}
use Rattle.dh_syntax.specs.Imports.Locations.{is_up}
use Rattle.dh_paths.proofs.Paths.{dot_put, name_put, other_put, tail_goes_up}
use Rattle.dh_paths.proofs.canonical.put_before.Goals as goal
use Rattle.dh_paths.proofs.canonical.put_before.Goals.{else-goes_up-via-then-goes_up+else-not-is_up, else-goes_up-via-else-goes_up}

pub returns-then-is_dot-clause-path : goal.returns-then-is_dot-clause-path
returns-then-is_dot-clause-path c =
    dot_put c.args.comps.now.items c.args.at c.args.top c.index-comp.result.now (c.requires.before, omega arith, c.index-comp.ensures) c.requires.canonical (sym c.is_dot.ensures ∙ c.if-is_dot.true)

pub returns-then-not-is_up-clause-path : goal.returns-then-not-is_up-clause-path
returns-then-not-is_up-clause-path c =
    let up = tail_goes_up c.args.comps.now.items c.deref.result.now c.args.top c.goes_up.result c.deref.ensures.value c.goes_up.ensures.value in
    name_put c.args.comps.now.items c.args.at c.args.top c.index-comp.result.now (c.requires.before, omega arith, c.index-comp.ensures) c.requires.canonical
    (sym c.is_dot.ensures ∙ c.if-is_dot.false) (up ∙ c.if-goes_up.true) (sym c.is_up.ensures ∙ c.if-not-is_up.true)

pub returns-clause-path : goal.returns-clause-path
returns-clause-path c =
    let up = tail_goes_up c.args.comps.now.items c.deref.result.now c.args.top c.goes_up.result c.deref.ensures.value c.goes_up.ensures.value in
    let stays : (c.goes_up.result && not (is_up c.index-comp.result.now)) ≡ false =
    elim c.else-goes_up.branch [
      | else-goes_up-via-then-goes_up+else-not-is_up w ↦ rw (w.if-goes_up.true, sym w.is_up.ensures, w.if-not-is_up.false) refl
      | else-goes_up-via-else-goes_up w ↦ rw w.if-goes_up.false refl
    ]
    in
    other_put c.args.comps.now.items c.swap.new.self.items c.args.at c.args.top c.index-comp.result.now _ (c.requires.before, omega arith, c.index-comp.ensures) (c.swap.ensures.by_index.3 []) c.requires.canonical
    (sym c.is_dot.ensures ∙ c.if-is_dot.false) (ap (λ b. b && not (is_up c.index-comp.result.now)) up ∙ stays)
