-- What the tables of an account hold.
use Rattle.heat_account.specs.declared.tables_of.LastPeriod.{LastPeriod}
use Rattle.heat_account.specs.declared.tables_of.Tables.{Tables}
use Rattle.heat_account.specs.State.{Period, State}

abbrev pub period_of : LastPeriod → Period
period_of p = record { readings = p.readings; total = p.total; common = p.common }

abbrev pub state_of : Tables → State
state_of t = record {
  readings = t.readings;
  last = period_of t.last;
  bills = t.bills;
  balances = t.balances;
  closed = t.closed;
  stage = t.stage;
}
