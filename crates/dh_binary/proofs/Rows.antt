-- Each row of the table is read as it is defined.
use Rattle.std.specs.Prelude.{◌≡◌, Bool, List, [], ◌∷◌, ◌++◌, Option, Some, None, refl}
use Rattle.std.proofs.Common.{sym, ◌∙◌, ap}
use Rattle.std.proofs.lemmas.List.{append_assoc, append-nil}
use Rattle.dh_syntax.specs.declared.expressions.Op.{Op}
use Rattle.dh_syntax.specs.Bytes.BinaryLeaves.{◌>>=◌}
use Rattle.dh_syntax.specs.Bytes.BinaryRead as old
use Rattle.dh_syntax.specs.Bytes.BinaryRead.{Part, plain_row}
use Rattle.dh_syntax.specs.Expressions.Tree.{Node, Term}
use Rattle.dh_binary.specs.Machine.{Value, holds, operands, fill}
use Rattle.dh_binary.specs.Inside.Terms.{terms}
use Rattle.dh_binary.proofs.Parts.{hold, reads_parts}

abbrev pub none : {A B : Type 0} → A → Option B
none x = None

pub bind_assoc : {A B C : Type 0} (o : Option A) (f : A → Option B) (g : B → Option C) → ((o >>= f) >>= g) ≡ (o >>= λ a. f a >>= g)
bind_assoc (Some a) f g = refl
bind_assoc None f g = refl

pub bind_same : {A B : Type 0} (o : Option A) (f g : A → Option B) → ((a : A) → f a ≡ g a) → (o >>= f) ≡ (o >>= g)
bind_same (Some a) f g h = h a
bind_same None f g h = refl

pub bind_none : {A B : Type 0} (o : Option A) → (o >>= none {A = A} {B = B}) ≡ none {A = Option A} {B = B} o
bind_none (Some a) = refl
bind_none None = refl

pub step : {A : Type 0} (o : Option A) (f : A → Value Term) (g : Value Term → Option (Value Term)) (k : A → Option Term) → ((a : A) → g (f a) ≡ hold (k a)) → ((o >>= λ x. Some (f x)) >>= g) ≡ hold (o >>= k)
step (Some a) f g k h = h a
step None f g k h = refl

operands_read : (b : Bool) (op : Op) (es : List Term) (ps : List Part) → reads_parts b (operands op es) ps ≡ hold (old.terms ps >>= λ fs. Some (Node op (plain_row (es ++ fs))))
operands_read b op es [] = ap (λ xs. Some (holds (Node op (plain_row xs)))) (sym (append-nil es))
operands_read b op es (p ∷ ps) =
    step p.term holds (λ v. reads_parts b (fill terms (operands op es) v) ps) (λ e. old.terms ps >>= λ fs. Some (Node op (plain_row (es ++ e ∷ fs))))
    (λ e. operands_read b op (es ++ e ∷ []) ps ∙ ap hold (bind_same (old.terms ps) (λ fs. Some (Node op (plain_row ((es ++ e ∷ []) ++ fs)))) (λ fs. Some (Node op (plain_row (es ++ e ∷ fs)))) (λ fs. ap (λ xs. Some (Node op (plain_row xs))) (append_assoc es (e ∷ []) fs))))
    ∙ ap hold (bind_same p.term (λ e. old.terms ps >>= λ fs. Some (Node op (plain_row (es ++ e ∷ fs)))) (λ e. old.terms ps >>= (λ fs. Some (e ∷ fs)) >>= λ fs. Some (Node op (plain_row (es ++ fs)))) (λ e. sym (bind_assoc (old.terms ps) (λ fs. Some (e ∷ fs)) (λ fs. Some (Node op (plain_row (es ++ fs)))))))
    ∙ ap hold (sym (bind_assoc p.term (λ e. old.terms ps >>= λ fs. Some (e ∷ fs)) (λ fs. Some (Node op (plain_row (es ++ fs))))))

pub node_read : (b : Bool) (op : Op) (ps : List Part) → reads_parts b (operands op []) ps ≡ hold (old.node op ps)
node_read b op ps = operands_read b op [] ps
