use Rattle.std.proofs.Common.{◌∙◌, ap, ◌+◌, ◌*◌, length}
use Rattle.dh_making.specs.Words.{key_of}
use Rattle.dh_syntax.specs.Text.Derivation.{one_key}
use Rattle.dh_making.proofs.KeyLists.{keys_len_on}
use Rattle.dh_making.proofs.keys.Keys.token_count.Goals as goal

pub returns : goal.returns
returns c = ap (λ n. n * 2 + 1) (ap length c.as_slice.ensures.value) ∙ keys_len_on (one_key (key_of c.args.self.now.first)) c.args.self.now.more.items
