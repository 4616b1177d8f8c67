-- The requests that were made.
use Rattle.std.specs.Prelude.{List, map}
use Rattle.rbac_diff.specs.Requests.{RequestView}
use Rattle.rbac_use.specs.declared.request.Request.{Request}

-- what contracts see of a request
abbrev pub request_of : Request → RequestView
request_of r = record {
  who = r.who.now;
  namespace = r.namespace.now;
  verb = r.verb.now;
  target = r.target.now;
}

-- what contracts see of a log: its requests
abbrev pub log_of : List Request → List RequestView
log_of rs = map request_of rs
