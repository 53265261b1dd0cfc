-- What the state of the program stands for.
use Rattle.std.specs.Prelude.{option_map}
use Rattle.dh_grammar.specs.Machine as machine
use Rattle.dh_grammar.specs.Machine.{State, need, have, wait, done}
use Rattle.dh_grammar.specs.Making.{Sorts}
use Rattle.dh_making.specs.Projections.{projection_of}
use Rattle.dh_making.specs.Views.{Views}
use Rattle.dh_making.specs.Words.{word_of, key_of, keys_of, source_of}
use Rattle.dh_making.specs.declared.making.Makes.{Ghosts}
use Rattle.dh_reader.specs.Stacks.{stack_of}
use Rattle.dh_reader.specs.declared.frames.stack.Frames.{Frames}
use Rattle.dh_reader.specs.declared.tops.Held.{Held}
use Rattle.dh_reader.specs.declared.tops.Held.TheVariants as helds
use Rattle.dh_reader.specs.declared.tops.Front.{Front}
use Rattle.dh_reader.specs.declared.tops.Front.TheVariants as fronts
use Rattle.dh_reader.specs.declared.tops.Wait.{Wait}
use Rattle.dh_reader.specs.declared.tops.Wait.TheVariants as waits
use Rattle.dh_reader.specs.declared.tops.Top.{Top}
use Rattle.dh_reader.specs.declared.tops.Top.TheVariants as places

-- the builder, what it builds and what that stands for
module _ {M Tree Note Lets Chunks Items Alternatives Fields Entry Entries : Type 0} {K : Sorts} (v : Views Tree Note Lets Chunks Items Alternatives Fields Entry Entries K) where
  abbrev pub held_of : Held M Tree Note Lets Chunks Items Alternatives Fields Entry Entries → machine.Held K
  held_of (helds.Named w) = machine.named (word_of w)
  held_of (helds.Imported i) = machine.imported (source_of i.source) i.digest
  held_of (helds.Ready x) = machine.ready (v.tree x)

  abbrev pub front_of : Front M Tree Note Lets Chunks Items Alternatives Fields Entry Entries → machine.Front K
  front_of fronts.Opening = machine.opening
  front_of (fronts.Behind cs x) = machine.behind (v.chunks cs) (v.tree x)

  abbrev pub wait_of : Wait M Tree Note Lets Chunks Items Alternatives Fields Entry Entries → machine.Wait K
  wait_of (waits.Quantifier b) = machine.quantifier b
  wait_of (waits.Quantified b) = machine.quantified b
  wait_of (waits.Quantity b w) = machine.quantity b (word_of w)
  wait_of (waits.Domained b w x) = machine.domained b (word_of w) (v.tree x)
  wait_of waits.Asserting = machine.asserting
  wait_of (waits.Letting ls) = machine.letting (option_map v.lets ls)
  wait_of (waits.Lettered ls w) = machine.lettered (option_map v.lets ls) (word_of w)
  wait_of (waits.WithStart x) = machine.with_start (v.tree x)
  wait_of (waits.WithKeys x ks) = machine.with_keys (v.tree x) (keys_of ks)
  wait_of (waits.WithDot x ks) = machine.with_dot (v.tree x) (keys_of ks)
  wait_of (waits.Indexed w) = machine.indexed (word_of w)
  wait_of (waits.Moded i) = machine.moded (source_of i.source) i.digest
  wait_of (waits.Dotted x) = machine.dotted (v.tree x)
  wait_of (waits.Projecting x c) = machine.projecting (v.tree x) c
  wait_of (waits.Projected x c ks) = machine.projected (v.tree x) c (projection_of ks)
  wait_of (waits.ProjectedComma x c ks) = machine.projected_comma (v.tree x) c (projection_of ks)
  wait_of (waits.Empty c) = machine.empty c
  wait_of (waits.UnionStart c) = machine.union_start c
  wait_of (waits.Alternative c as' k) = machine.alternative c (option_map v.alternatives as') (key_of k)
  wait_of (waits.AlternativeBar c as') = machine.alternative_bar c (v.alternatives as')
  wait_of (waits.RecordStart c) = machine.record_start c
  wait_of (waits.RecordEquals c d) = machine.record_equals c d
  wait_of (waits.FieldComma c fs) = machine.field_comma c (v.fields fs)
  wait_of (waits.FieldKey c fs k) = machine.field_key c (v.fields fs) (key_of k)
  wait_of (waits.EntryComma c es) = machine.entry_comma c (v.entries es)
  wait_of (waits.EntryKeys c es ks) = machine.entry_keys c (option_map v.entries es) (keys_of ks)
  wait_of (waits.EntryDot c es ks) = machine.entry_dot c (option_map v.entries es) (keys_of ks)
  wait_of (waits.TextFront f p) = machine.text_front f (front_of p)
  wait_of (waits.TextPiece f cs) = machine.text_piece f (v.chunks cs)

  abbrev pub state_of : {G : Ghosts M Tree Note Lets Chunks Items Alternatives Fields Entry Entries} → Frames M Tree Note Lets Chunks Items Alternatives Fields Entry Entries G → Top M Tree Note Lets Chunks Items Alternatives Fields Entry Entries → State K
  state_of fs places.Need = need (stack_of v fs)
  state_of fs (places.Have h) = have (stack_of v fs) (held_of h)
  state_of fs (places.Wait w) = wait (wait_of w) (stack_of v fs)
  state_of fs (places.Done x) = done (v.tree x)
