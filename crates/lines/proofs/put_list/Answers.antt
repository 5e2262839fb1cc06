-- The sets' lines, `sets `, and the count's line.
use Rattle.lines.proofs.Filling.{list-filled}
use Rattle.lines.proofs.put_list.Goals as goal

pub returns : goal.returns
returns c = list-filled _ _ c.put_lines-next.ensures.put c.put-next.ensures c.put_line.ensures
