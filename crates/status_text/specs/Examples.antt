-- Worked cases: the values of a node.
use Rattle.std.specs.Prelude.{[], None, codes}
use Rattle.sealed_port.specs.Causes.{nothing}
use Rattle.sealed_port.specs.declared.cause.Unopened.{Unopened}
use Rattle.gatekeeping.specs.declared.commits.CommitTimes.{CommitTimes}
use Rattle.gatekeeping.specs.declared.refused.Refused.{Refused}
use Rattle.status_text.specs.declared.status.Status.{Status}

-- a refusal of each reason, the n-th one n times
abbrev pub refused_once : Refused
refused_once = record {
  bad_line = 1;
  clock = 2;
  busy = 3;
  unknown = 4;
  throttled = 5;
  password = 6;
  exhausted = 7;
  invalid = 8;
  spent = 9;
  timeout = 10;
}

-- commits in each bucket, n in the n-th one
abbrev pub commits_once : CommitTimes
commits_once = record { one = 1; two = 2; five = 3; ten = 4; twenty = 5; fifty = 6; hundred = 7; more = 8 }

-- no commits
abbrev pub no_commits : CommitTimes
no_commits = record { one = 0; two = 0; five = 0; ten = 0; twenty = 0; fifty = 0; hundred = 0; more = 0 }

-- a datagram of each cause, the n-th one n times
abbrev pub unopened_once : Unopened
unopened_once = record { form = 1; tag = 2; early = 3; late = 4; again = 5; limited = 6 }

-- node 1 of 3 without a book, rows, refusals, commits, unopened datagrams and other members
abbrev pub first_status : Status
first_status = record {
  node = 1;
  members = 3;
  boot = 7;
  version = record { major = 0; minor = 9; patch = 0 };
  clock = 1800000000;
  started = 1700000000;
  fingerprint = codes "b1061f3a2d61dfbd";
  book = None;
  rows = None;
  tokens = 2;
  pending = 0;
  closed = 1;
  received = 6;
  replied = 4;
  accepted = 3;
  refused = record {
    bad_line = 0;
    clock = 0;
    busy = 0;
    unknown = 0;
    throttled = 0;
    password = 0;
    exhausted = 0;
    invalid = 0;
    spent = 0;
    timeout = 0;
  };
  ticks = 5;
  largest_batch = 3;
  commit_times = no_commits;
  unopened = nothing;
  others = record { items = [] };
}
