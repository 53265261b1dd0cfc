-- What is recorded is recorded once.
use Rattle.std.specs.Prelude.{◌≤◌, List, count_by}
use Rattle.dh_syntax.specs.declared.locations.Digest.{Digest}
use Rattle.dh_syntax.specs.declared.locations.Loc.{Loc}
use Rattle.dh_syntax.specs.Expressions.SameTree.{digest_eq, loc_eq}
use Rattle.dh_syntax.specs.Expressions.Tree.{Term}
use Rattle.dh_imports.specs.Machine.{Event, after_all, Lawful}

-- A location is that of one recorded text at most.
abbrev pub TextsAreRecordedOnce : Type 0
TextsAreRecordedOnce = (root : Term) (es : List Event) (l : Loc) → Lawful root es → count_by (λ t. loc_eq t.0 l) (after_all root es).recorded.texts ≤ 1

-- A digest is that of one recorded look at most.
abbrev pub LooksAreRecordedOnce : Type 0
LooksAreRecordedOnce = (root : Term) (es : List Event) (d : Digest) → Lawful root es → count_by (λ t. digest_eq t.0 d) (after_all root es).recorded.looks ≤ 1
