use Rattle.std.proofs.Common.{◌+◌, ◌*◌, arith, rules}
use Rattle.oathtool_core.proofs.TimeLemmas.{with_clock}
use Rattle.oathtool_core.proofs.time.time_of.Goals as goal

pub returns-clause-some : goal.returns-clause-some
returns-clause-some c = record {
  date = c.in_ok-day.day;
  named = c.in_ok-day.ensures.day;
  hours = c.if-fields-gt23.false;
  minutes = c.if-fields-gt59.false;
  within_minute = search rules;
  value = with_clock c.in-Some.start
      (c.args.fields.now.hour * 3600 + c.args.fields.now.minute * 60 + c.args.fields.now.second)
      (c.in-Some.start + c.args.fields.now.hour * 3600 + c.args.fields.now.minute * 60 + c.args.fields.now.second)
      _ c.in-Some.ensures.some (omega arith);
}
