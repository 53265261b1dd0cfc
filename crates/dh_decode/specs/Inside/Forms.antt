-- Operators without text or numbers in them.
use Rattle.dh_syntax.specs.declared.expressions.Op.{Op}
use Rattle.dh_syntax.specs.declared.expressions.Op.TheVariants as ops
use Rattle.dh_decode.specs.declared.places.Form.{Form}
use Rattle.dh_decode.specs.declared.places.Form.TheVariants as forms

-- the operator of an expression of this form
abbrev pub op_of : Form → Op
op_of forms.Lam = ops.Lam
op_of forms.Pi = ops.Pi
op_of forms.If = ops.If
op_of (forms.By o) = ops.Bin o
op_of forms.EmptyList = ops.EmptyList
op_of forms.List = ops.List
op_of forms.Some = ops.Some
op_of (forms.Merge typed) = ops.Merge typed
op_of forms.Assert = ops.Assert
op_of forms.Annot = ops.Annot
op_of (forms.ToMap typed) = ops.ToMap typed
