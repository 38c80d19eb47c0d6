-- What C calls promises what `host` promises, and so all that is proved of the one holds of the other: each export's contract is
-- that of the function that it calls, by computing.
use mathlib.Core.Path.{◌≡◌, refl}
use Rattle.host.proofs.zap_match.Reads as of_match
use Rattle.host.proofs.zap_check.Reads as of_check
use Rattle.host.proofs.zap_summary.Reads as of_summary
use Rattle.host.proofs.zap_write.Reads as of_write
use Rattle.host.proofs.zap_read_table.Reads as of_read_table
use Rattle.host.proofs.zap_write_table.Reads as of_write_table
use Rattle.host_c.proofs.zap_match.Reads as zap_match
use Rattle.host_c.proofs.zap_check.Reads as zap_check
use Rattle.host_c.proofs.zap_summary.Reads as zap_summary
use Rattle.host_c.proofs.zap_write.Reads as zap_write
use Rattle.host_c.proofs.zap_read_table.Reads as zap_read_table
use Rattle.host_c.proofs.zap_write_table.Reads as zap_write_table

pub zap_match_same : zap_match.Post ≡ of_match.Post
zap_match_same = refl

pub zap_check_same : zap_check.Post ≡ of_check.Post
zap_check_same = refl

pub zap_summary_same : zap_summary.Post ≡ of_summary.Post
zap_summary_same = refl

pub zap_write_same : zap_write.Post ≡ of_write.Post
zap_write_same = refl

pub zap_read_table_same : zap_read_table.Post ≡ of_read_table.Post
zap_read_table_same = refl

pub zap_write_table_same : zap_write_table.Post ≡ of_write_table.Post
zap_write_table_same = refl
