-- The members of an object that is being written.
use Rattle.rf_script_writer.specs.declared.object.Object.{Object}
use Rattle.serde_json.specs.Data.{Members}
use Rattle.serde_json.specs.View.{members_view}

abbrev pub members : Object → Members
members object = members_view object.members.entries
