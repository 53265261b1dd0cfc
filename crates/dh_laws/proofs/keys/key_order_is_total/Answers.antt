use Rattle.dh_laws.proofs.KeyOrder.{key_le-total, key_le-transitive, key_le-antisymmetric}
use Rattle.dh_laws.proofs.keys.key_order_is_total.Goals as goal

pub returns : goal.returns
returns c = record { total = key_le-total; transitive = key_le-transitive; antisymmetric = key_le-antisymmetric }
