use Rattle.width_extreme.proofs.Lawful.{is-lawful, table-starts, makes-chain}
use Rattle.width_extreme.proofs.prefix.PrefixRanges.new.Goals as goal

pub invariant_of-result : goal.invariant_of-result
invariant_of-result c =
    let table = c.in_ok-table.table in
    let lawful = is-lawful c.args.elements.now table c.requires.linear c.in_ok-table.ensures.told in
    record { some = c.requires.some; narrow = c.requires.narrow; lawful = lawful; long = c.longest-longest.ensures; causal = table-starts table c.args.width lawful }

pub returns-clause-streams : goal.returns-clause-streams
returns-clause-streams c = makes-chain c.args.elements.now c.in_ok-table.table c.requires.linear c.in_ok-table.ensures.told
