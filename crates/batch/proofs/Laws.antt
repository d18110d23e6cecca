-- The laws of specs/Laws. Rests on the records they speak of and on Charts of `history`.
use Rattle.history.proofs.Charts.{store_words_charts}
use Rattle.encoding.specs.Encoding.{calls_of}
use Rattle.batch.specs.Laws.{BatchIsHistory, BatchCharts}

pub batch_is_history : BatchIsHistory
batch_is_history counts before start end list area area' n f r =
    record { before = before; start = start; formats = f; calls = r.calls }

pub batch_charts : BatchCharts
batch_charts counts cs qs start end list area area' n h r =
    store_words_charts counts cs qs start h (calls_of list n) r.replies end r.calls
