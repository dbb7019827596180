-- How long the parts of a JSON value are.
use Rattle.serde_json.proofs.Views.{items_len-items_view, members_len-members_view}

pub ruleset lengths = (items_len-items_view, members_len-members_view)
