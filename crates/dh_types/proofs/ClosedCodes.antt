-- Codes without loose variables, as more are made.
use Rattle.std.specs.Prelude.{◌<◌, ℕ, refl}
use Rattle.std.proofs.Common.{sym, subst as along}
use Rattle.dh_syntax.specs.declared.operators.Builtin.{Builtin}
use Rattle.dh_syntax.specs.Expressions.Forms.{builtin}
use Rattle.dh_store.specs.declared.codes.Codes.{Codes}
use Rattle.dh_store.specs.Cells.{code_core}
use Rattle.dh_store.specs.Growth.{count}
use Rattle.dh_types.specs.Closed.{IsClosed}
use Rattle.dh_types.specs.Growing.{Grows, Stands}

pub builtin-closed : (cs : Codes) (c : ℕ) (b : Builtin) → Stands cs c (builtin b) → IsClosed (code_core cs c)
builtin-closed cs c b s = along IsClosed (sym s.core) refl

pub closed-later : (old new : Codes) (c : ℕ) → Grows old new → c < count old → IsClosed (code_core old c) → IsClosed (code_core new c)
closed-later old new c g h p = along IsClosed (sym (g.cores c h)) p
