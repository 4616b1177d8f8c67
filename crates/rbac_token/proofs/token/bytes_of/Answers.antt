use Rattle.std.proofs.Common.{rules}
use Rattle.rbac_token.proofs.token.bytes_of.Goals as goal

pub returns-in-Ok-clause-key : goal.returns-in-Ok-clause-key
returns-in-Ok-clause-key c = search rules

pub returns-in-Err-DecodeError-clause-key : goal.returns-in-Err-DecodeError-clause-key
returns-in-Err-DecodeError-clause-key c = search rules

pub returns-in-Err-DecodeError-clause-mark : goal.returns-in-Err-DecodeError-clause-mark
returns-in-Err-DecodeError-clause-mark c = search rules
