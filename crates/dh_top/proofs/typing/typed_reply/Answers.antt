use Rattle.dh_syntax.specs.Expressions.Bridge.{term}
use Rattle.dh_command.specs.declared.verbs.Verb.TheVariants as verbs
use Rattle.dh_top.proofs.TypedReplies.{type_printed, for_verb}
use Rattle.dh_top.proofs.typing.typed_reply.Goals as goal

pub returns-in-Type : goal.returns-in-Type
returns-in-Type c =
    type_printed c.printed_line.result c.args.verb (term c.args.e.now) (term c.args.typed.now) c.in-Type.is c.requires.typed c.requires.type_shallow c.printed_line.ensures

pub returns-in-Normalize : goal.returns-in-Normalize
returns-in-Normalize c = for_verb c.normal_reply.result c.args.verb verbs.Normalize (term c.args.e.now) c.in-Normalize.is c.normal_reply.ensures

pub returns-in-Hash : goal.returns-in-Hash
returns-in-Hash c = for_verb c.hash_reply.result c.args.verb verbs.Hash (term c.args.e.now) c.in-Hash.is c.hash_reply.ensures

pub returns-in-ToJson : goal.returns-in-ToJson
returns-in-ToJson c = for_verb c.json_reply.result c.args.verb verbs.ToJson (term c.args.e.now) c.in-ToJson.is c.json_reply.ensures
